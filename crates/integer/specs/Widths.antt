-- Seats and instants are faithful widths. Assumes nothing.
use mathlib.Core.Path.{◌≡◌, refl, ap}
use mathlib.Core.Bool.{Bool, true, false}
use Prim.Native.Nat.{ℕ, ◌+◌, ◌-◌, ◌<◌, ◌^◌}
use native.Mathlib.Omega.{arith}
use lib.IntN.{ℤ, pos, negsuc}
use lib.Signed.{mag}
use lib.Dec.{ltb}
use borrow.Author.Tests.{lt-ltb, le-ltb, ltb-true, ltb-false}
use Rattle.rules.specs.Lists.{seats, instants, key64, point64}
use Rattle.integer.specs.Faithful.{Faithful}

-- the values of each
abbrev pub IsSeat : ℕ → Type 0
IsSeat a = a < 2 ^ 32

abbrev pub IsInstant : ℤ → Type 0
IsInstant a = mag a < 2 ^ 63

pub faithful_seats : Faithful seats (λ a. a < 2 ^ 32)
faithful_seats = record { key_point = λ k h. refl; point_key = λ a h. refl; below = λ a h. h }

key_point : (k : ℕ) → k < 2 ^ 64 → key64 (point64 k) ≡ k
unfolding key64 point64
key_point k h = go (ltb k 9223372036854775808) refl where
  go : (t : Bool) → ltb k 9223372036854775808 ≡ t → key64 (point64 k) ≡ k
  go true e = rw e (omega (arith, ltb-true k _ e))
  go false e = rw e (omega (arith, ltb-false k _ e))

point_key : (a : ℤ) → mag a < 2 ^ 63 → point64 (key64 a) ≡ a
unfolding key64 point64
point_key (pos n) f = rw (le-ltb (9223372036854775808 + n) 9223372036854775808 (omega arith)) (ap pos (omega arith))
point_key (negsuc n) f = rw (lt-ltb (9223372036854775807 - n) 9223372036854775808 (omega arith)) (ap negsuc (omega arith))

below : (a : ℤ) → mag a < 2 ^ 63 → key64 a < 2 ^ 64
unfolding key64
below (pos n) f = omega arith
below (negsuc n) f = omega arith

pub faithful_instants : Faithful instants (λ a. mag a < 2 ^ 63)
faithful_instants = record { key_point = key_point; point_key = point_key; below = below }
