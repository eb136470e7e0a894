-- Laws of keys: both widths are faithful, and the order, the equality and the steps of instants are those of their keys. Assumes nothing.
use mathlib.Core.Path.{◌≡◌, refl, sym, ap, ◌∙◌}
use mathlib.Core.Bool.{Bool, true, false}
use Prim.Native.Nat.{ℕ, zero, suc, ◌+◌, ◌-◌, ◌<◌, ◌≤◌, ◌^◌}
use native.Mathlib.Omega.{arith}
use lib.IntN.{ℤ, pos, negsuc, ◌+ℤ◌, ◌-ℤ◌, suc_ℤ, pred_ℤ, +ℤ_one, -ℤ_one}
use lib.Signed.{lt_z, mag}
use lib.Dec.{ltb, eqb}
use borrow.Author.Tests.{lt-ltb, le-ltb, ltb-true, ltb-false, eqb-true, eqb-false}
use mir.Syntax.{Width as Bits, w32, w64}
use mir.Val.{SFits, hbits, of_z, to_z}
use mir.ValLaws.{to_z-of_z}
use Rattle.rules.specs.Lists.{Width, key64}
use Rattle.integer.specs.Order.{Less, Same}
use Rattle.integer.specs.Faithful.{Faithful}
pub use Rattle.integer.specs.Widths.{faithful_seats, faithful_instants}

-- two tests of order agree where the facts that they decide do
same_order : (a b c d : ℕ) → (a < b → c < d) → (b ≤ a → d ≤ c) → ltb a b ≡ ltb c d
same_order a b c d f g = go (ltb a b) refl where
  go : (t : Bool) → ltb a b ≡ t → ltb a b ≡ ltb c d
  go true e = e ∙ sym (lt-ltb _ _ (f (ltb-true a b e)))
  go false e = e ∙ sym (le-ltb _ _ (g (ltb-false a b e)))

-- points with one key are one point
module _ {P : Type 0} {w : Width P} {Fits : P → Type 0} (f : Faithful w Fits) where
  pub same_point : (a b : P) → Fits a → Fits b → w.key a ≡ w.key b → a ≡ b
  same_point a b fa fb e = sym (f.point_key a fa) ∙ ap w.point e ∙ f.point_key b fb

-- a signed value that went through a local, as the logic has it
pub back : (w : Bits) (a : ℤ) → mag a < 2 ^ hbits w → to_z w (of_z w a) ≡ a
back w a f = to_z-of_z w a (record { sfits = f })

-- a price as an i64
pub wide : (v : ℤ) → mag v < 2 ^ 31 → SFits w64 (to_z w32 (of_z w32 v)) × (to_z w64 (of_z w64 (to_z w32 (of_z w32 v))) ≡ v)
wide v f = rw (back w32 v f) (record { sfits = omega arith }, back w64 v (omega arith))

pub key_back : (a : ℤ) → mag a < 2 ^ 63 → key64 (to_z w64 (of_z w64 a)) ≡ key64 a
key_back a f = ap key64 (back w64 a f)

-- instants are ordered as their keys are
pub key_order : (a b : ℤ) → mag a < 2 ^ 63 → mag b < 2 ^ 63 → lt_z a b ≡ ltb (key64 a) (key64 b)
unfolding key64
key_order (pos a) (pos b) f g = same_order a b (9223372036854775808 + a) (9223372036854775808 + b) (λ h. omega arith) (λ h. omega arith)
key_order (pos a) (negsuc b) f g = sym (le-ltb (9223372036854775808 + a) (9223372036854775807 - b) (omega arith))
key_order (negsuc a) (pos b) f g = sym (lt-ltb (9223372036854775807 - a) (9223372036854775808 + b) (omega arith))
key_order (negsuc a) (negsuc b) f g = same_order b a (9223372036854775807 - a) (9223372036854775807 - b) (λ h. omega arith) (λ h. omega arith)

-- what the tests of the code say, of values that went through locals
pub less_said : (a b : ℤ) → mag a < 2 ^ 63 → mag b < 2 ^ 63 → Less (key64 a) (key64 b) (lt_z (to_z w64 (of_z w64 a)) (to_z w64 (of_z w64 b)))
less_said a b f g = rw (back w64 a f, back w64 b g, key_order a b f g) (record { yes = ltb-true _ _; no = ltb-false _ _ })

pub same_said : (a b : ℤ) → mag a < 2 ^ 63 → mag b < 2 ^ 63 → Same (key64 a) (key64 b) (eqb (of_z w64 a) (of_z w64 b))
same_said a b f g = record {
  yes = λ t. ap key64 (sym (back w64 a f) ∙ ap (to_z w64) (eqb-true (of_z w64 a) (of_z w64 b) t) ∙ back w64 b g);
  no = λ t e. eqb-false (of_z w64 a) (of_z w64 b) t (ap (of_z w64) (same_point faithful_instants a b f g e));
}

-- a step up and a step down, within the width
up : (a : ℤ) → mag a < 2 ^ 63 → key64 a + 1 < 2 ^ 64 → (mag (suc_ℤ a) < 2 ^ 63) × (key64 (suc_ℤ a) ≡ key64 a + 1)
unfolding key64
up (pos n) f h = (omega arith, omega arith)
up (negsuc zero) f h = (omega arith, refl)
up (negsuc (suc n)) f h = (omega arith, omega arith)

down : (a : ℤ) → mag a < 2 ^ 63 → 0 < key64 a → (mag (pred_ℤ a) < 2 ^ 63) × (key64 (pred_ℤ a) + 1 ≡ key64 a)
unfolding key64
down (pos zero) f h = (omega arith, refl)
down (pos (suc n)) f h = (omega arith, omega arith)
down (negsuc n) f h = (omega arith, omega arith)

-- the same as the code has them: the result fits, and it has the next key or the one before
pub added : (a : ℤ) → mag a < 2 ^ 63 → key64 a + 1 < 2 ^ 64 → SFits w64 (a +ℤ pos 1) × (key64 (to_z w64 (of_z w64 (a +ℤ pos 1))) ≡ key64 a + 1)
added a f h = let u = up a f h in rw +ℤ_one (record { sfits = u.0 }, key_back (suc_ℤ a) u.0 ∙ u.1)

pub subtracted : (a : ℤ) → mag a < 2 ^ 63 → 0 < key64 a → SFits w64 (a -ℤ pos 1) × (key64 (to_z w64 (of_z w64 (a -ℤ pos 1))) + 1 ≡ key64 a)
subtracted a f h = let d = down a f h in rw -ℤ_one (record { sfits = d.0 }, ap (λ k. k + 1) (key_back (pred_ℤ a) d.0) ∙ d.1)
