-- Laws of the ways between points and keys: the steps of `key` and `point` over instants, and the key at a place of a column. Assumes nothing.
use mathlib.Core.Path.{◌≡◌, refl, ap, ◌∙◌}
use mathlib.Core.Bool.{true, false}
use mathlib.Core.List.{List, [], ◌∷◌}
use Prim.Native.Nat.{ℕ, zero, suc, ◌+◌, ◌-◌, ◌<◌, ◌≤◌, ◌^◌}
use native.Mathlib.Omega.{arith}
use lib.Dec.{T}
use lib.IntN.{ℤ, pos, negsuc, nat_abs, ◌+ℤ◌, ◌-ℤ◌}
use lib.ListN.{length, get_or}
use lib.Signed.{lt_z, mag, non_neg}
use borrow.Author.Tests.{lt-ltb, le-ltb, ltb-true}
use mir.Syntax.{w64}
use mir.Val.{Fits, SFits, of_z, to_z}
use mir.ValLaws.{to_z_pos}
use Rattle.std.proofs.lemmas.List.{get_or_default}
use Rattle.rules.specs.Lists.{Width, key64, point64}
use Rattle.integer.specs.Faithful.{Faithful}
use Rattle.integer.specs.KeyAt.{KeyAt}
use Rattle.integer.proofs.Laws.{back}

module _ {P : Type 0} {w : Width P} {Fits : P → Type 0} (f : Faithful w Fits) where
  pub key_at : (column : List P) (place r : ℕ) (d : P) → place < length column → Fits (get_or column place d) → r ≡ w.key (get_or column place d) → KeyAt w column place r
  key_at column place r d h g e = record { is = e ∙ ap w.key (get_or_default column place d (w.point 0) h); below = rw e (f.below _ g) }

-- what `key` asks of its two ways, at an instant z that has the key k: below 0 it takes off the least, and from 0 on it adds 2 ^ 63
abbrev Unsigned : ℤ → Type 0
Unsigned z = T (non_neg z) × Fits w64 (nat_abs z)

abbrev FromLeast : ℤ → ℕ → Type 0
FromLeast z k = let d = z -ℤ negsuc 9223372036854775807 in let u = to_z w64 (of_z w64 d) in SFits w64 d × Unsigned u × (nat_abs u ≡ k)

abbrev FromZero : ℤ → ℕ → Type 0
FromZero z k = Unsigned z × Fits w64 (nat_abs z + 9223372036854775808) × (nat_abs z + 9223372036854775808 ≡ k)

from_least : (a : ℤ) → mag a < 2 ^ 63 → lt_z a (pos 0) ≡ true → FromLeast a (key64 a)
unfolding key64
from_least (pos n) f t = absurd (omega (arith, ltb-true n 0 t))
from_least (negsuc n) f t =
    rw (le-ltb 9223372036854775808 (suc n) (omega arith), to_z_pos w64 (9223372036854775808 - suc n) (omega arith))
    (record { sfits = omega arith }, (tt, record { fits = omega arith }), omega arith)

from_zero : (a : ℤ) → mag a < 2 ^ 63 → lt_z a (pos 0) ≡ false → FromZero a (key64 a)
unfolding key64
from_zero (pos n) f t = ((tt, record { fits = omega arith }), record { fits = omega arith }, omega arith)
from_zero (negsuc n) f t = let z : ◌≡◌ {A = ℕ} 0 1 = cc in absurd (omega arith)

-- the same of an instant that went through a local
pub key_negative : (a : ℤ) → mag a < 2 ^ 63 → lt_z (to_z w64 (of_z w64 a)) (pos 0) ≡ true → FromLeast (to_z w64 (of_z w64 a)) (key64 a)
key_negative a f t = rw (back w64 a f) (from_least a f (rw (back w64 a f) at t))

pub key_nonnegative : (a : ℤ) → mag a < 2 ^ 63 → lt_z (to_z w64 (of_z w64 a)) (pos 0) ≡ false → FromZero (to_z w64 (of_z w64 a)) (key64 a)
key_nonnegative a f t = rw (back w64 a f) (from_zero a f (rw (back w64 a f) at t))

-- the two ways of `point`
pub point_negative : (k : ℕ) → k < 2 ^ 63 → let s = to_z w64 k +ℤ negsuc 9223372036854775807 in SFits w64 s × (to_z w64 (of_z w64 s) ≡ point64 k)
unfolding point64
point_negative k h =
    rw (to_z_pos w64 k h, lt-ltb k 9223372036854775808 h)
    (record { sfits = omega arith }, back w64 (negsuc (9223372036854775808 - suc k)) (omega arith) ∙ ap negsuc (omega arith))

pub point_nonnegative : (k : ℕ) → 2 ^ 63 ≤ k → k < 2 ^ 64 → to_z w64 (k - 9223372036854775808) ≡ point64 k
unfolding point64
point_nonnegative k l h = rw (to_z_pos w64 (k - 9223372036854775808) (omega arith), le-ltb k 9223372036854775808 l)
