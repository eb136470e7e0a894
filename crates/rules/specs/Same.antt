-- Tests for equality of values. Assumes nothing.
use Rattle.std.specs.Prelude.{◌≡◌, Bool, true, false, ◌&&◌, ℤ, pos, negsuc, eqb}
use Rattle.std.specs.declared.option.Option.{Option}
use Rattle.std.specs.declared.option.Option.TheVariants.{None, Some}

-- what a test for equality is
pub record Decides {B : Type 0} (same : B → B → Bool) : Type 0 where
  pub equal : (a b : B) → same a b ≡ true → a ≡ b
  pub differ : (a b : B) → same a b ≡ false → a ≡ b → ⊥

abbrev pub eq_ℤ : ℤ → ℤ → Bool
eq_ℤ (pos a) (pos b) = eqb a b
eq_ℤ (pos a) (negsuc b) = false
eq_ℤ (negsuc a) (pos b) = false
eq_ℤ (negsuc a) (negsuc b) = eqb a b

module _ {A : Type 0} (same : A → A → Bool) where
  abbrev pub eq_option : Option A → Option A → Bool
  eq_option None None = true
  eq_option None (Some b) = false
  eq_option (Some a) None = false
  eq_option (Some a) (Some b) = same a b

  abbrev pub eq_pair : {B : Type 0} → (B → B → Bool) → A × B → A × B → Bool
  eq_pair like a b = same a.0 b.0 && like a.1 b.1
