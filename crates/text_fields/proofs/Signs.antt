-- How long a number's text is, by its sign as the code tests it: the number went through a local. Assumes nothing.
use Prim.Native.Nat.{ℕ, ◌+◌, ◌<◌, ◌≤◌, ◌^◌, zero-le}
use mathlib.Core.Path.{◌≡◌}
use mathlib.Core.Bool.{Bool, true, false}
use native.Mathlib.Omega.{arith}
use lib.ListN.{length}
use lib.IntN.{ℤ, pos, negsuc, nat_abs}
use lib.Signed.{lt_z, mag}
use borrow.Author.Tests.{le-ltb}
use mir.Syntax.{w64}
use mir.Val.{bool_byte, of_z, to_z}
use Rattle.integer.proofs.Laws.{back}
use Rattle.answer_text.specs.Numbers.{decimal, signed}

by_sign : (z : ℤ) → length (signed z) ≡ length (decimal (nat_abs z)) + bool_byte (lt_z z (pos 0))
unfolding signed
by_sign (pos n) = rw (le-ltb n 0 zero-le) (omega arith)
by_sign (negsuc n) = omega arith

pub long : (z : ℤ) (n : ℕ) → mag z < 2 ^ 63 → n ≡ nat_abs (to_z w64 (of_z w64 z)) → length (signed z) ≡ length (decimal n) + bool_byte (lt_z (to_z w64 (of_z w64 z)) (pos 0))
long z n f e = rw (e, back w64 z f) (by_sign z)

-- a sign takes one byte at most
pub one_byte : (b : Bool) → bool_byte b ≤ 1
one_byte true = omega arith
one_byte false = omega arith
