use Prim.Native.Nat.{◌-◌}
use Rattle.rules.specs.Lists.{held, lists}
use Rattle.many_way_rules.specs.declared.Operation.TheVariants.{Join}
use Rattle.multiway_sweep.specs.Steps.{reads}
use Rattle.join_sweep.specs.Stretches.{after, moment_of, Joining}
use Rattle.multiway_pass.specs.Pieces.{waiting}
use Rattle.multiway_pass.specs.Outputs.{columns_of, Same}
use Rattle.multiway_pass.proofs.Walks.{Going}
use Rattle.multiway_pass.proofs.Merges.{merge}
use Rattle.multiway_pass.proofs.pass.Given as goal

abbrev pub invariant-loop-range : goal.invariant-loop-range
invariant-loop-range g l =
    let w = g.P.Integer.width in
    Joining w (reads (held l.lent)) (lists w (held l.lent)) l.sweep (moment_of l.sweep.state.last_end)
    × Going (merge w (Join l.admission l.combiner) (held l.lent) l.write (columns_of l.fn.out)) (columns_of l.out) (waiting l.pending) l.count (after l.sweep.state.last_end)
    × Same l.fn.out l.out

abbrev pub decreases-loop-range : goal.decreases-loop-range
decreases-loop-range g l = g.P.Integer.width.points - after l.sweep.state.last_end
