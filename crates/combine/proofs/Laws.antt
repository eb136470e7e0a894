-- What a place more adds to the values present, their sum and their number. Assumes nothing.
use Prim.Native.Nat.{ℕ, zero, suc, ◌+◌, ◌^◌, ◌≤◌, ◌<◌}
use mathlib.Core.Path.{◌≡◌, refl, sym, ap, ◌∙◌}
use mathlib.Core.Bool.{Bool, true, false}
use mathlib.Core.List.{List, [], ◌∷◌, ◌++◌, append-nil}
use native.Mathlib.Omega.{arith}
use native.Mathlib.Nat.{add-zero}
use lib.IntN.{ℤ, pos, negsuc, ◌+ℤ◌}
use lib.ListN.{length, get_or, take, length-append}
use lib.Signed.{mag, ◌≤ℤ◌}
use mir.Syntax.{w64}
use mir.Val.{of_z, to_z}
use Rattle.std.specs.declared.option.Option.TheVariants.{Some}
use Rattle.std.specs.List.{count_by}
use Rattle.std.proofs.lemmas.Int.{ints, to_z-of_z}
use Rattle.std.proofs.lemmas.List.Sums.{count_by_more_yes, count_by_more_no}
use Rattle.rules.specs.Piece as pieces
use Rattle.rules.proofs.Present.{present_append}
use Rattle.many_way_rules.specs.Combiners as rules
use Rattle.many_way_rules.specs.Combiners.{sum_of}
use Rattle.slots.specs.Slots.{Slots, slot, slots_from, active, values_of}
use Rattle.combine.specs.Figures.{Summed}

slots_last : (s : Slots) (j n : ℕ) → slots_from s j (suc n) ≡ slots_from s j n ++ slot s (j + n) ∷ []
slots_last s j zero = ap (λ k. slot s k ∷ []) (sym (add-zero j))
slots_last s j (suc n) = ap (λ os. slot s j ∷ os) (slots_last s (suc j) n ∙ ap (λ k. slots_from s (suc j) n ++ slot s k ∷ []) (omega arith))

module _ (s : Slots) (i : ℕ) where
  pub values_last : values_of (i + 1) s ≡ values_of i s ++ pieces.present (slot s i ∷ [])
  values_last =
      let z : 0 + i ≡ i = omega arith in
      let e : i + 1 ≡ suc i = omega arith in
      rw e (ap pieces.present (rw z at (slots_last s 0 i)) ∙ present_append (active i s) (slot s i ∷ []))

  values_there : get_or s.present i false ≡ true → values_of (i + 1) s ≡ values_of i s ++ get_or s.current i (pos 0) ∷ []
  values_there t = rw t at values_last

  values_missing : get_or s.present i false ≡ false → values_of (i + 1) s ≡ values_of i s
  values_missing t = (rw t at values_last) ∙ append-nil (values_of i s)

  number_there : get_or s.present i false ≡ true → length (values_of (i + 1) s) ≡ length (values_of i s) + 1
  number_there t = ap length (values_there t) ∙ length-append (values_of i s) (get_or s.current i (pos 0) ∷ [])

  number_missing : get_or s.present i false ≡ false → length (values_of (i + 1) s) ≡ length (values_of i s)
  number_missing t = ap length (values_missing t)

-- as many of the first n places are present as have values
pub number : (s : Slots) (n : ℕ) → n ≤ length s.present → count_by (λ t. t) (take n s.present) ≡ length (values_of n s)
number s zero h = refl
number s (suc n) h = go (number s n (omega arith)) (get_or s.present n false) refl
  where
    e : n + 1 ≡ suc n
    e = omega arith

    go : count_by (λ t. t) (take n s.present) ≡ length (values_of n s) → (t : Bool) → get_or s.present n false ≡ t → count_by (λ u. u) (take (suc n) s.present) ≡ length (values_of (suc n) s)
    go k true q = rw e at (count_by_more_yes (λ t. t) s.present n false (omega arith) q ∙ ap (λ m. m + 1) k ∙ sym (number_there s n q))
    go k false q = rw e at (count_by_more_no (λ t. t) s.present n false (omega arith) q ∙ k ∙ sym (number_missing s n q))

sum_last : (l : List ℤ) (v : ℤ) → sum_of (l ++ v ∷ []) ≡ sum_of l +ℤ v
sum_last [] v = omega (arith, ints)
sum_last (u ∷ us) v = omega (arith, ints, sum_last us v)

mag_within : (z : ℤ) (n : ℕ) → negsuc n ≤ℤ z → z ≤ℤ pos n → mag z ≤ n
mag_within (pos a) n g h = omega (arith, ints)
mag_within (negsuc a) n g h = omega (arith, ints)

mag_sum : (a b : ℤ) → mag (a +ℤ b) ≤ mag a + mag b + 1
mag_sum a b = mag_within (a +ℤ b) (mag a + mag b + 1) (omega (arith, ints)) (omega (arith, ints))

module _ {i : ℕ} {s : Slots} {t : ℤ} (k : Summed i s t) where
  pub summed_there : get_or s.present i false ≡ true → mag (get_or s.current i (pos 0)) < 2 ^ 31 → {u : ℤ} → u ≡ t +ℤ get_or s.current i (pos 0) → Summed (i + 1) s u
  summed_there p f {u} e = record {
    is = e ∙ ap (λ z. z +ℤ get_or s.current i (pos 0)) k.is ∙ sym (ap sum_of (values_there s i p) ∙ sum_last (values_of i s) (get_or s.current i (pos 0)));
    bound = omega (arith, k.bound, ap mag e, mag_sum t (get_or s.current i (pos 0)));
  }

  pub summed_missing : get_or s.present i false ≡ false → Summed (i + 1) s t
  summed_missing p = record { is = k.is ∙ sym (ap sum_of (values_missing s i p)); bound = omega (arith, k.bound) }

-- the answer of a combiner over the values of n places, which went through a local
pub known : (k : ℕ) (f : List ℤ → ℤ) → ((l : List ℤ) → rules.combine k l ≡ Some (f l)) → (s : Slots) {c m n : ℕ} {r : ℤ} → c ≡ k → n ≡ m → r ≡ f (values_of n s) → mag r < 2 ^ 63 → Some (to_z w64 (of_z w64 r)) ≡ rules.combine c (values_of m s)
known k f is s ec en er fits = rw (to_z-of_z w64 _ (record { sfits = fits }), er, en, ec, is)
