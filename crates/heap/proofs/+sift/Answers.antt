-- `sift` meets its contract. The measure is how far the place is from the last of the array. Assumes nothing.
use Rattle.std.proofs.Common.{arith}
use Rattle.heap.proofs.Moves.{sift_stays, sift_goes_on}
use Rattle.heap.proofs.+sift.Goals as goal
use Rattle.heap.proofs.+sift.Goals.{then-place-len+else-earlier, else-place-len}

pub returns-then-earlier : goal.returns-then-earlier
returns-then-earlier t g c =
    sift_goes_on c.lesser-child.ensures (rw c.get-below.ensures at (c.earlier.ensures.yes c.if-earlier.true)) (rw c.get-below.ensures at c.put.ensures) c.sift.ensures

pub returns : goal.returns
returns t g c =
    sift_stays
    c.put-2.ensures
    (elim c.if-place-len.branch [
      | then-place-len+else-earlier w ↦ λ i u l. omega (arith, w.lesser-child.ensures.least i u l, rw w.get-below.ensures at (w.earlier.ensures.no w.if-earlier.false))
      | else-place-len w ↦ λ i u l. absurd (omega arith)
    ])
