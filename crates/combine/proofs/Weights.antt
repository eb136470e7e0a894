-- Laws of the search for the largest value, or for the least, which is that whose mirror image is the largest. Assumes nothing.
use Prim.Native.Nat.{ℕ, ◌+◌, ◌^◌, ◌<◌}
use mathlib.Core.Path.{◌≡◌, refl, sym, ap, ◌∙◌}
use mathlib.Core.Bool.{Bool, true, false, cond}
use mathlib.Core.List.{List, [], ◌∷◌, ◌++◌, append-nil}
use native.Mathlib.Omega.{arith}
use lib.IntN.{ℤ, pos, negsuc, ◌-ℤ◌}
use lib.ListN.{get_or}
use lib.Signed.{mag, le_z}
use mir.Syntax.{w32}
use mir.Val.{of_z, to_z}
use Rattle.std.specs.declared.option.Option.TheVariants.{None, Some}
use Rattle.std.specs.Bool.{then_some}
use Rattle.std.specs.Int.{int_max}
use Rattle.std.proofs.lemmas.Int.{ints, clamps, to_z-of_z}
use Rattle.rules.specs.Piece as pieces
use Rattle.slots.specs.Slots.{Slots, slot, values_of}
use Rattle.combine.specs.Figures.{lowest, mirrored, weight, utmost}
use Rattle.combine.proofs.Laws.{values_last}

larger : (v r : ℤ) → cond (le_z v r) r v ≡ int_max v r
larger v r = grind (arith, ints)

smaller : (v r : ℤ) → negsuc 0 -ℤ cond (le_z v r) v r ≡ int_max (negsuc 0 -ℤ v) (negsuc 0 -ℤ r)
smaller v r = grind (arith, ints)

max_assoc : (a b c : ℤ) → int_max a (int_max b c) ≡ int_max (int_max a b) c
max_assoc a b c = omega (arith, ints, clamps)

-- nothing weighs less than the lowest price
lowest_left : (so : Bool) (v : ℤ) → mag v < 2 ^ 31 → int_max lowest (mirrored so v) ≡ mirrored so v
lowest_left true v f = omega (arith, ints, clamps)
lowest_left false v f = omega (arith, ints, clamps)

lowest_right : (z : ℤ) → mag z < 2 ^ 31 → int_max z lowest ≡ z
lowest_right z f = omega (arith, ints, clamps)

-- one value more in front, and at the end
utmost_more : (least : Bool) (v u : ℤ) (us : List ℤ) → mirrored least (utmost least (v ∷ u ∷ us)) ≡ int_max (mirrored least v) (mirrored least (utmost least (u ∷ us)))
utmost_more true v u us = smaller v (utmost true (u ∷ us))
utmost_more false v u us = larger v (utmost false (u ∷ us))

utmost_last : (least : Bool) (u : ℤ) (us : List ℤ) (v : ℤ) → mirrored least (utmost least (u ∷ us ++ v ∷ [])) ≡ int_max (mirrored least (utmost least (u ∷ us))) (mirrored least v)
utmost_last true u [] v = utmost_more true u v []
utmost_last false u [] v = utmost_more false u v []
utmost_last least u (w ∷ ws) v =
    utmost_more least u w (ws ++ v ∷ []) ∙ ap (int_max (mirrored least u)) (utmost_last least w ws v)
    ∙ max_assoc (mirrored least u) (mirrored least (utmost least (w ∷ ws))) (mirrored least v)
    ∙ sym (ap (λ z. int_max z (mirrored least v)) (utmost_more least u w ws))

-- b is the largest weight of what places hold: the lowest while they hold nothing
abbrev Weighed : Bool → ℤ → List ℤ → Type 0
Weighed least b [] = b ≡ lowest
Weighed least b (v ∷ l) = b ≡ mirrored least (utmost least (v ∷ l))

weighed_more : (least : Bool) (b : ℤ) (l : List ℤ) → Weighed least b l → (v : ℤ) → mag v < 2 ^ 31 → Weighed least (int_max b (mirrored least v)) (l ++ v ∷ [])
weighed_more true b [] e v f = rw e (lowest_left true v f)
weighed_more false b [] e v f = rw e (lowest_left false v f)
weighed_more least b (u ∷ us) e v f = rw e (sym (utmost_last least u us v))

weighed_place : (least : Bool) (b : ℤ) (l : List ℤ) → mag b < 2 ^ 31 → Weighed least b l → (t : Bool) (v : ℤ) → mag v < 2 ^ 31 → Weighed least (int_max b (weight least (cond t (Some v) None))) (l ++ pieces.present (cond t (Some v) None ∷ []))
weighed_place least b l g e true v f = weighed_more least b l e v f
weighed_place least b l g e false v f = rw (lowest_right b g, append-nil l) e

-- the same of the first i places
pub record Best (least : Bool) (b : ℤ) (i : ℕ) (s : Slots) : Type 0 where
  pub weighed : Weighed least b (values_of i s)

some_is : {A : Type 0} (t : Bool) (v : A) → then_some t v ≡ cond t (Some v) None
some_is true v = refl
some_is false v = refl

-- a place more, as the code has it: price, weight and the larger went through locals
pub best_next : {least : Bool} {b : ℤ} {i : ℕ} {s : Slots} → Best least b i s → mag b < 2 ^ 31 → mag (get_or s.current i (pos 0)) < 2 ^ 31 → {w r : ℤ} → mag w < 2 ^ 31 → mag r < 2 ^ 31 → w ≡ weight least (then_some (get_or s.present i false) (to_z w32 (of_z w32 (get_or s.current i (pos 0))))) → r ≡ int_max b (to_z w32 (of_z w32 w)) → Best least (to_z w32 (of_z w32 r)) (i + 1) s
best_next {least} {b} {i} {s} k g f {w} {r} w-fits r-fits weighs picks =
    let back : to_z w32 (of_z w32 r) ≡ r = to_z-of_z w32 r (record { sfits = r-fits }) in
    let is : r ≡ int_max b (weight least (slot s i)) = picks ∙ rw (to_z-of_z w32 w (record { sfits = w-fits }), weighs, to_z-of_z w32 (get_or s.current i (pos 0)) (record { sfits = f }), some_is (get_or s.present i false) (get_or s.current i (pos 0))) in
    rw back (record { weighed = rw (is, values_last s i) (weighed_place least b (values_of i s) g k.weighed (get_or s.present i false) (get_or s.current i (pos 0)) f) })
