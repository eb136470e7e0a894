-- `sum` meets its contract. Assumes nothing.
use native.Mathlib.Omega.{arith}
use Rattle.std.proofs.lemmas.Int.{ints}
use Rattle.combine.proofs.Laws.{summed_there, summed_missing}
use Rattle.combine.proofs.sum.Goals as goal
use Rattle.combine.proofs.sum.Goals.{then-present-i, else-present-i}

pub loop-i-preserved : goal.loop-i-preserved
loop-i-preserved c =
    elim c.if-present-i.branch [
      | then-present-i w ↦ summed_there c.loop-i.invariant w.if-present-i.true (omega arith) (omega (arith, ints))
      | else-present-i w ↦ rw w.total-is (summed_missing c.loop-i.invariant w.if-present-i.false)
    ]
