-- A store into the heap's places, and the order of lists. Assumes nothing.
use Prim.Native.Nat.{ℕ, ◌<◌}
use native.Mathlib.Omega.{arith}
use lib.Dec.{ltb}
use borrow.Author.Tests.{ltb-true, ltb-false}
use Rattle.integer.specs.Order.{Less}
use Rattle.active_lists.specs.Kept.{rank}

-- the order of lists, as the code tests it
pub lower_said : (x y : ℕ) → y < 256 → Less (rank y) (rank x) (ltb x y)
unfolding rank
lower_said x y l = record { yes = λ e. omega (arith, ltb-true x y e); no = λ e. omega (arith, ltb-false x y e) }
