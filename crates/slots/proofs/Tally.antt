-- How a figure over the lists present changes when a list begins or ends. Assumes nothing.
use Prim.Native.Nat.{ℕ, zero, suc, ◌+◌, ◌<◌}
use mathlib.Core.Path.{◌≡◌, refl, sym, ap, ◌∙◌}
use Rattle.std.specs.declared.option.Option.{Option}
use Rattle.std.specs.declared.option.Option.TheVariants.{None, Some}
use mathlib.Core.List.{List, [], ◌∷◌}
use native.Mathlib.Omega.{arith}
use lib.ListN.{length, get_or, set}
use Rattle.rules.specs.Piece.{present}
use Rattle.std.proofs.lemmas.Option.{none-some}
use Rattle.slots.specs.Tally.{Additive, tally}

module _ {A M : Type 0} (nought : M) (plus : M → M → M) (law : Additive plus) (f : A → M) where
  abbrev figure : List (Option A) → M
  figure = tally nought plus f

  -- a list that has nothing begins with v
  pub tally_begins : (os : List (Option A)) (j : ℕ) (v : A) → j < length os → get_or os j None ≡ None → figure (set os j (Some v)) ≡ plus (f v) (figure os)
  tally_begins [] j v h e = absurd (omega arith)
  tally_begins (None ∷ os) zero v h e = refl
  tally_begins (Some u ∷ os) zero v h e = absurd (none-some u (sym e))
  tally_begins (None ∷ os) (suc j) v h e = tally_begins os j v (omega arith) e
  tally_begins (Some u ∷ os) (suc j) v h e = ap (plus (f u)) (tally_begins os j v (omega arith) e) ∙ law.swap (f u) (f v) (figure os)

  -- a list that has v ends
  pub tally_ends : (os : List (Option A)) (j : ℕ) (v : A) → get_or os j None ≡ Some v → figure os ≡ plus (f v) (figure (set os j None))
  tally_ends [] j v e = absurd (none-some v e)
  tally_ends (None ∷ os) zero v e = absurd (none-some v e)
  tally_ends (Some u ∷ os) zero v e = let q : u ≡ v = cc in rw q
  tally_ends (None ∷ os) (suc j) v e = tally_ends os j v e
  tally_ends (Some u ∷ os) (suc j) v e = ap (plus (f u)) (tally_ends os j v e) ∙ law.swap (f u) (f v) (figure (set os j None))

-- the number of lists present is such a figure
pub counts : Additive ◌+◌
counts = record { swap = λ a b c. omega arith }

pub tally_count : {A : Type 0} (os : List (Option A)) → tally 0 ◌+◌ (λ v. 1) os ≡ length (present os)
tally_count [] = refl
tally_count (None ∷ os) = tally_count os
tally_count (Some v ∷ os) = omega (arith, tally_count os)
