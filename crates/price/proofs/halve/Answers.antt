-- `price::halve` meets its contract: where halving comes to from each turn on is where it comes to. Assumes nothing.
use native.Mathlib.Omega.{arith}
use Rattle.price.proofs.Halving.{upper, lower, ended}
use Rattle.price.proofs.halve.Goals as goal
use Rattle.price.proofs.halve.Goals.{then-key_at-point, else-key_at-point}

pub loop-size-preserved : goal.loop-size-preserved
loop-size-preserved g c =
    elim c.if-key_at-point.branch [
      | then-key_at-point w ↦ rw w.base-is (upper c.loop-size.invariant (omega arith) (omega arith) _ c.key_at.ensures.is (omega arith))
      | else-key_at-point w ↦ rw w.base-is (lower c.loop-size.invariant (omega arith) (omega arith) _ c.key_at.ensures.is (omega arith))
    ]

pub returns : goal.returns
returns g c =
    ended c.loop-size.invariant (omega arith)
