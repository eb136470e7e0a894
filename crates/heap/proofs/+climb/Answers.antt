-- `climb` meets its contract. The measure is the place. Assumes nothing.
use Rattle.std.proofs.Common.{◌-◌, ◌/◌, arith}
use Rattle.heap.proofs.Moves.{one_parent, climb_stays, climb_goes}
use Rattle.heap.proofs.+climb.Goals as goal
use Rattle.heap.proofs.+climb.Goals.{then-place-gt0+else-earlier, else-place-gt0}

pub returns-then-earlier : goal.returns-then-earlier
returns-then-earlier t g c =
    climb_goes (omega arith) (rw c.get-above.ensures at (c.earlier.ensures.yes c.if-earlier.true)) (rw c.get-above.ensures at c.put.ensures) c.climb.ensures

pub returns : goal.returns
returns t g c =
    climb_stays
    c.put-2.ensures
    (elim c.if-place-gt0.branch [
      | then-place-gt0+else-earlier w ↦ one_parent _ ((c.args.place - 1) / 2) (omega arith) (rw w.get-above.ensures at (w.earlier.ensures.no w.if-earlier.false))
      | else-place-gt0 w ↦ λ q u. absurd (omega arith)
    ])
