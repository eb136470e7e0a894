-- The tests decide equality. Assumes nothing.
use Prim.Native.Nat.{ℕ}
use mathlib.Core.Path.{◌≡◌, refl, sym, ap}
use mathlib.Core.Logic.{◌≢◌}
use mathlib.Core.Bool.{Bool, true, false, ◌&&◌, true≢false, false≢true}
use Rattle.std.specs.declared.option.Option.{Option}
use Rattle.std.specs.declared.option.Option.TheVariants.{None, Some}
use native.Mathlib.Omega.{arith}
use lib.IntN.{ℤ, pos, negsuc}
use lib.Dec.{eqb}
use borrow.Author.Tests.{eqb-true, eqb-false}
use Rattle.std.proofs.lemmas.Option.{none-some}
use Rattle.rules.specs.Same.{Decides, eq_ℤ, eq_option, eq_pair}
use Rattle.rules.specs.TwoWay.{same_match}

decides_ℕ : Decides eqb
decides_ℕ = record { equal = eqb-true; differ = eqb-false }

pub decides_ℤ : Decides eq_ℤ
decides_ℤ = record { equal = equal; differ = differ }
  where
    equal : (a b : ℤ) → eq_ℤ a b ≡ true → a ≡ b
    equal (pos a) (pos b) e = ap pos (eqb-true a b e)
    equal (pos a) (negsuc b) e = absurd (false≢true e)
    equal (negsuc a) (pos b) e = absurd (false≢true e)
    equal (negsuc a) (negsuc b) e = ap negsuc (eqb-true a b e)

    differ : (a b : ℤ) → eq_ℤ a b ≡ false → a ≡ b → ⊥
    differ (pos a) (pos b) e q = eqb-false a b e (cc)
    differ (pos a) (negsuc b) e q = let z : ◌≡◌ {A = ℕ} 0 1 = cc in omega arith
    differ (negsuc a) (pos b) e q = let z : ◌≡◌ {A = ℕ} 0 1 = cc in omega arith
    differ (negsuc a) (negsuc b) e q = eqb-false a b e (cc)

module _ {A : Type 0} (same : A → A → Bool) (law : Decides same) where
  pub decides_option : Decides (eq_option same)
  decides_option = record { equal = equal; differ = differ }
    where
      equal : (a b : Option A) → eq_option same a b ≡ true → a ≡ b
      equal None None e = refl
      equal None (Some b) e = absurd (false≢true e)
      equal (Some a) None e = absurd (false≢true e)
      equal (Some a) (Some b) e = ap {B = Option A} Some (law.equal a b e)

      differ : (a b : Option A) → eq_option same a b ≡ false → a ≡ b → ⊥
      differ None None e q = true≢false e
      differ None (Some b) e q = none-some b q
      differ (Some a) None e q = none-some a (sym q)
      differ (Some a) (Some b) e q = law.differ a b e (cc)

  pub decides_pair : {B : Type 0} (like : B → B → Bool) → Decides like → Decides (eq_pair same like)
  decides_pair {B} like rule = record { equal = λ a b e. equal a b (same a.0 b.0) refl e; differ = λ a b e q. differ a b (same a.0 b.0) refl e (λ i. (q i).0) (λ i. (q i).1) }
    where
      equal : (a b : A × B) (t : Bool) → same a.0 b.0 ≡ t → (t && like a.1 b.1) ≡ true → a ≡ b
      equal a b true s e = λ i. (law.equal a.0 b.0 s i, rule.equal a.1 b.1 e i)
      equal a b false s e = absurd (false≢true e)

      differ : (a b : A × B) (t : Bool) → same a.0 b.0 ≡ t → (t && like a.1 b.1) ≡ false → a.0 ≡ b.0 → a.1 ≡ b.1 → ⊥
      differ a b true s e p q = rule.differ a.1 b.1 e q
      differ a b false s e p q = law.differ a.0 b.0 s p

pub decides_match : Decides same_match
decides_match = decides_pair (eq_option eqb) (decides_option eqb decides_ℕ) (eq_option eqb) (decides_option eqb decides_ℕ)
