-- `utmost` meets its contract: the best is the largest weight of the places passed. Assumes nothing.
use native.Mathlib.Omega.{arith}
use Rattle.std.proofs.Math.Facts.{sfits_to_z}
use Rattle.combine.proofs.Weights.{best_next}
use Rattle.combine.proofs.utmost.Goals as goal

pub loop-i-preserved : goal.loop-i-preserved
loop-i-preserved g c =
    best_next c.loop-i.invariant (sfits_to_z c.loop-i.auto.best-fits).sfits (omega arith) c.weight.type_inv c.max-best.type_inv (rw c.then_some.ensures at c.weight.ensures) c.max-best.ensures.value
