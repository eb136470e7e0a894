-- The sum over the lists present changes by one value when a list begins or ends, as their number does (slots, count-more and count-less). Assumes nothing.
use Prim.Native.Nat.{ℕ, ◌<◌}
use mathlib.Core.Path.{◌≡◌, refl, sym, ap, ◌∙◌}
use Rattle.std.specs.declared.option.Option.{Option}
use Rattle.std.specs.declared.option.Option.TheVariants.{None, Some}
use mathlib.Core.List.{List, [], ◌∷◌}
use lib.IntN.{ℤ, pos, ◌+ℤ◌}
use lib.ListN.{length, get_or, set}
use Rattle.rules.specs.Piece.{present}
use Rattle.many_way_rules.specs.Combiners.{sum_of}
use Rattle.many_way_rules.proofs.Combiners.{swapped}
use Rattle.slots.specs.Tally.{Additive, tally}
use Rattle.slots.proofs.Tally.{tally_begins, tally_ends}

sums : Additive ◌+ℤ◌
sums = record { swap = swapped }

pub tally_sum : (os : List (Option ℤ)) → tally (pos 0) ◌+ℤ◌ (λ v. v) os ≡ sum_of (present os)
tally_sum [] = refl
tally_sum (None ∷ os) = tally_sum os
tally_sum (Some v ∷ os) = ap (λ z. v +ℤ z) (tally_sum os)

module _ (os : List (Option ℤ)) (j : ℕ) (v : ℤ) where
  -- a list that has nothing begins with v
  pub sum_begins : j < length os → get_or os j None ≡ None → sum_of (present (set os j (Some v))) ≡ v +ℤ sum_of (present os)
  sum_begins h e = sym (tally_sum (set os j (Some v))) ∙ tally_begins (pos 0) ◌+ℤ◌ sums (λ u. u) os j v h e ∙ ap (λ z. v +ℤ z) (tally_sum os)

  -- a list that has v ends
  pub sum_ends : get_or os j None ≡ Some v → sum_of (present os) ≡ v +ℤ sum_of (present (set os j None))
  sum_ends e = sym (tally_sum os) ∙ tally_ends (pos 0) ◌+ℤ◌ sums (λ u. u) os j v e ∙ ap (λ z. v +ℤ z) (tally_sum (set os j None))
