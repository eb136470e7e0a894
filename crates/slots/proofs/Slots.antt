-- What the places hold after a store, and how many lists are present. Assumes nothing.
use Prim.Native.Nat.{ℕ, zero, suc, ◌+◌, ◌≤◌, ◌<◌}
use mathlib.Core.Path.{◌≡◌, refl, sym, ap, ◌∙◌}
use mathlib.Core.Bool.{Bool, true, false}
use Rattle.std.specs.declared.option.Option.{Option}
use Rattle.std.specs.declared.option.Option.TheVariants.{None, Some}
use mathlib.Core.List.{List, [], ◌∷◌}
use native.Mathlib.Omega.{arith}
use native.Mathlib.Nat.{add-zero}
use lib.Dec.{eqb}
use lib.IntN.{ℤ}
use lib.ListN.{length, get_or, set, replicate, length-set}
use lib.Seq.{get_or-set_same, get_or-set_other, ext_get_or}
use borrow.Author.Tests.{eqb-true, eqb-false}
use Rattle.rules.specs.Piece.{Piece, Range, present}
use Rattle.rules.specs.Proving.Below.{nones}
use Rattle.slots.specs.Slots.{Slots, slot, slots_from, active}
use Rattle.slots.proofs.Tally.{tally_begins, tally_ends, counts, tally_count}

slots_length : (s : Slots) (i n : ℕ) → length (slots_from s i n) ≡ n
slots_length s i zero = refl
slots_length s i (suc n) = ap suc (slots_length s (suc i) n)

slots_at : (s : Slots) (i n j : ℕ) → j < n → get_or (slots_from s i n) j None ≡ slot s (i + j)
slots_at s i zero j h = absurd (omega arith)
slots_at s i (suc n) zero h = rw add-zero
slots_at s i (suc n) (suc j) h = slots_at s (suc i) n j (omega arith) ∙ ap (slot s) (omega arith)

-- what so many lists have, by place
pub active_length : (n : ℕ) (s : Slots) → length (active n s) ≡ n
active_length n s = slots_length s 0 n

pub active_at : (n : ℕ) (s : Slots) (j : ℕ) → j < n → get_or (active n s) j None ≡ slot s j
active_at n s j h = slots_at s 0 n j h ∙ ap (slot s) (omega arith)

-- one place changes
module _ (s t : Slots) (n j : ℕ) (o : Option ℤ) (there : slot t j ≡ o) (else : (i : ℕ) → (i ≡ j → ⊥) → slot t i ≡ slot s i) where
  active_set : active n t ≡ set (active n s) j o
  active_set = ext_get_or None (active n t) (set (active n s) j o) (active_length n t ∙ sym (length-set (active n s) j o ∙ active_length n s)) (λ i h. let l : i < n = omega (arith, active_length n t) in active_at n t i l ∙ go i l (eqb i j) refl)
    where
      go : (i : ℕ) → i < n → (b : Bool) → eqb i j ≡ b → slot t i ≡ get_or (set (active n s) j o) i None
      go i h true q = let e : i ≡ j = eqb-true _ _ q in let l : j < length (active n s) = omega (arith, active_length n s) in rw e (there ∙ sym (get_or-set_same (active n s) j o None l))
      go i h false q = else i (eqb-false _ _ q) ∙ sym (active_at n s i h) ∙ sym (get_or-set_other (active n s) j i o None (eqb-false _ _ q))

module _ (s : Slots) (n j : ℕ) (h : j < length s.present) where
  pub absent_set : active n (record { current = s.current; present = set s.present j false }) ≡ set (active n s) j None
  absent_set = active_set s (record { current = s.current; present = set s.present j false }) n j None (rw (get_or-set_same s.present j false false h)) (λ i ne. rw (get_or-set_other s.present j i false false ne))

  pub present_set : (v : ℤ) → j < length s.current → active n (record { current = set s.current j v; present = set s.present j true }) ≡ set (active n s) j (Some v)
  present_set v l =
      active_set s (record { current = set s.current j v; present = set s.present j true }) n j (Some v)
      (rw (get_or-set_same s.present j true false h, get_or-set_same s.current j v _ l))
      (λ i ne. rw (get_or-set_other s.present j i true false ne, get_or-set_other s.current j i v _ ne))

no_false : (n i : ℕ) → get_or (replicate n false) i false ≡ false
no_false zero i = refl
no_false (suc n) zero = refl
no_false (suc n) (suc i) = no_false n i

-- no place holds anything
slots_none : (current : List ℤ) (n i : ℕ) (ls : List (List Range)) → slots_from (record { current = current; present = replicate n false }) i (length ls) ≡ nones ls
slots_none current n i [] = refl
slots_none current n i (l ∷ ls) = rw (no_false n i) (ap (λ r. None ∷ r) (slots_none current n (suc i) ls))

pub active_none : (current : List ℤ) (n : ℕ) (ls : List (List Range)) → active (length ls) (record { current = current; present = replicate n false }) ≡ nones ls
active_none current n ls = slots_none current n 0 ls

module _ {A : Type 0} where
  -- how many of the lists have something
  pub count_upto : (os : List (Option A)) → length (present os) ≤ length os
  count_upto [] = omega arith
  count_upto (None ∷ os) = omega (arith, count_upto os)
  count_upto (Some v ∷ os) = omega (arith, count_upto os)

  pub count_more : (os : List (Option A)) (j : ℕ) (v : A) → j < length os → get_or os j None ≡ None → length (present (set os j (Some v))) ≡ length (present os) + 1
  count_more os j v h e = omega (arith, tally_begins 0 ◌+◌ counts (λ u. 1) os j v h e, tally_count os, tally_count (set os j (Some v)))

  pub count_less : (os : List (Option A)) (j : ℕ) (v : A) → get_or os j None ≡ Some v → length (present os) ≡ length (present (set os j None)) + 1
  count_less os j v e = omega (arith, tally_ends 0 ◌+◌ counts (λ u. 1) os j v e, tally_count os, tally_count (set os j None))

  -- none has anything
  pub count_none : (os : List (Option A)) (ls : List (List (Piece A))) → length os ≡ length ls → length (present os) ≡ 0 → os ≡ nones ls
  count_none [] [] h q = refl
  count_none [] (l ∷ ls) h q = absurd (omega arith)
  count_none (o ∷ os) [] h q = absurd (omega arith)
  count_none (None ∷ os) (l ∷ ls) h q = ap (λ r. None ∷ r) (count_none os ls (omega arith) q)
  count_none (Some v ∷ os) (l ∷ ls) h q = absurd (omega arith)

  pub nones_count : (ls : List (List (Piece A))) → length (present (nones ls)) ≡ 0
  nones_count [] = refl
  nones_count (l ∷ ls) = nones_count ls
