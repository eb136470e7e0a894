-- `JoinSweepMut::close` meets its contract: whatever lists the join is about, it is about them still. Assumes nothing.
use mathlib.Core.Path.{◌≡◌}
use mathlib.Core.List.{List}
use Rattle.rules.specs.Piece.{Range}
use Rattle.rules.specs.Lists.{held}
use Rattle.multiway_sweep.specs.Steps.{reads}
use Rattle.join_sweep.specs.Stretches.{moment_of, Joining, Same}
use Rattle.join_sweep.proofs.JoinSweepMut.close.Given as goal

abbrev pub invariant-loop-list : goal.invariant-loop-list
invariant-loop-list g l =
    let w = g.P.Integer.width in
    let c = reads (held l.lent) in
    ((ls : List (List Range)) → Joining w c ls l.fn.self (moment_of l.fn.self.state.last_end) → Joining w c ls l.self (moment_of l.self.state.last_end))
    × (l.self.state.last_end ≡ l.fn.self.state.last_end)
    × Same l.fn.self l.self

abbrev pub decreases-loop-list : goal.decreases-loop-list
decreases-loop-list g l = l.self.state.active_count
