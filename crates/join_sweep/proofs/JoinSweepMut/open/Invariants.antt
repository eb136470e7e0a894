-- `JoinSweepMut::open` meets its contract: whatever lists the join is about, it is about them still. Assumes nothing.
use Prim.Native.Nat.{◌*◌, ◌-◌}
use mathlib.Core.List.{List}
use Rattle.rules.specs.Piece.{Range}
use Rattle.rules.specs.Lists.{held}
use Rattle.multiway_sweep.specs.Steps.{reads}
use Rattle.join_sweep.specs.Stretches.{Busy, Joining, Same}
use Rattle.join_sweep.proofs.JoinSweepMut.open.Given as goal

abbrev pub invariant-loop-list : goal.invariant-loop-list
invariant-loop-list g l =
    let w = g.P.Integer.width in
    let c = reads (held l.lent) in
    ((ls : List (List Range)) → Joining w c ls l.fn.self (2 * l.start) → Joining w c ls l.self (2 * l.start))
    × Busy l.start l.self.state
    × Same l.fn.self l.self

abbrev pub decreases-loop-list : goal.decreases-loop-list
decreases-loop-list g l = 16 - l.self.state.active_count
