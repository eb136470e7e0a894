-- Admissions and picks by places: every place has something, some place has, an odd number have; and the last that has something. Then what each operation says. Assumes nothing.
use Prim.Native.Nat.{ℕ, zero, suc, ◌%◌, ◌≤◌, ◌<◌}
use mathlib.Core.Path.{◌≡◌, refl, sym, ap, ◌∙◌}
use mathlib.Core.Logic.{◌↔◌, ◌⊎◌, inl, inr, ⊎_elim}
use mathlib.Core.Bool.{Bool, true, false, cond, not, true≢false, false≢true}
use Rattle.std.specs.declared.option.Option.{Option}
use Rattle.std.specs.declared.option.Option.TheVariants.{None, Some}
use mathlib.Core.List.{List, [], ◌∷◌}
use native.Mathlib.Omega.{arith}
use lib.Dec.{eqb, ltb, eqb-suc-suc}
use lib.IntN.{ℤ}
use lib.ListN.{length, get_or}
use borrow.Author.Tests.{eq-eqb, ne_eqb, lt-ltb}
use Rattle.rules.specs.Piece.{there, present}
use Rattle.std.proofs.lemmas.Option.{none-some}
use Rattle.rules.proofs.Present.{Something}
use Rattle.many_way_rules.specs.Combiners.{combine}
use Rattle.many_way_rules.specs.Selections.{in_every, in_any, in_odd, admitted, highest, picked}
use Rattle.many_way_rules.specs.Operations.{inner, full, union, symmetric_difference, admission, value_of, rule_of}
use Rattle.many_way_rules.specs.declared.Admission.{Admission}
use Rattle.many_way_rules.specs.declared.Admission.TheVariants.{Every, Any, Odd}
use Rattle.many_way_rules.specs.declared.Pick.TheVariants.{Highest}
use Rattle.many_way_rules.specs.declared.Operation.{Operation}

-- an admission by how many lists there are, and how many of them are present
abbrev pub by_number : Admission → ℕ → ℕ → Bool
by_number Every lists n = eqb n lists
by_number Any lists n = ltb 0 n
by_number Odd lists n = eqb (n % 2) 1

module _ {A : Type 0} where
  -- which points an admission takes, of what the lists have there
  abbrev pub Admits : Admission → List (Option A) → Type 0
  Admits Every os = (i : ℕ) → i < length os → Something (get_or os i None)
  Admits Any os = (i : ℕ) × Something (get_or os i None)
  Admits Odd os = length (present os) % 2 ≡ 1

  every_place : (os : List (Option A)) → in_every os ≡ true → (i : ℕ) → i < length os → Something (get_or os i None)
  every_place [] e i h = absurd (omega arith)
  every_place (None ∷ os) e i h = absurd (false≢true e)
  every_place (Some v ∷ os) e zero h = (v, refl)
  every_place (Some v ∷ os) e (suc i) h = every_place os e i (omega arith)

  place_every : (os : List (Option A)) → ((i : ℕ) → i < length os → Something (get_or os i None)) → in_every os ≡ true
  place_every [] f = refl
  place_every (None ∷ os) f = let s = f 0 (omega arith) in absurd (none-some s.0 s.1)
  place_every (Some v ∷ os) f = place_every os (λ i h. f (suc i) (omega arith))

  some_place : (os : List (Option A)) → in_any os ≡ true → (i : ℕ) × Something (get_or os i None)
  some_place [] e = absurd (false≢true e)
  some_place (None ∷ os) e = let r = some_place os e in (suc r.0, r.1)
  some_place (Some v ∷ os) e = (0, (v, refl))

  place_some : (os : List (Option A)) (i : ℕ) → Something (get_or os i None) → in_any os ≡ true
  place_some [] i s = absurd (none-some s.0 s.1)
  place_some (None ∷ os) zero s = absurd (none-some s.0 s.1)
  place_some (None ∷ os) (suc i) s = place_some os i s
  place_some (Some v ∷ os) i s = refl

  present_upto : (os : List (Option A)) → length (present os) ≤ length os
  present_upto [] = omega arith
  present_upto (None ∷ os) = omega (arith, present_upto os)
  present_upto (Some v ∷ os) = omega (arith, present_upto os)

  every_number : (os : List (Option A)) → eqb (length (present os)) (length os) ≡ in_every os
  every_number [] = refl
  every_number (None ∷ os) = ne_eqb (length (present os)) (length (None ∷ os)) (λ q. omega (arith, present_upto os))
  every_number (Some v ∷ os) = eqb-suc-suc (length (present os)) (length os) ∙ every_number os

  any_number : (os : List (Option A)) → ltb 0 (length (present os)) ≡ in_any os
  any_number [] = refl
  any_number (None ∷ os) = any_number os
  any_number (Some v ∷ os) = lt-ltb 0 (length (v ∷ present os)) (omega arith)

  parity : (os : List (Option A)) → cond (in_odd os) 1 0 ≡ length (present os) % 2
  parity [] = refl
  parity (None ∷ os) = parity os
  parity (Some v ∷ os) = go (in_odd os) (parity os)
    where
      go : (t : Bool) → cond t 1 0 ≡ length (present os) % 2 → cond (not t) 1 0 ≡ suc (length (present os)) % 2
      go true e = omega arith
      go false e = omega arith

  odd_number : (os : List (Option A)) (t : Bool) → in_odd os ≡ t → (t ≡ true) ↔ Admits Odd os
  odd_number os true e = (λ q. sym (parity os) ∙ ap (λ b. cond b 1 0) e, λ q. refl)
  odd_number os false e = (λ q. absurd (false≢true q), λ q. absurd (omega (arith, sym (parity os) ∙ ap (λ b. cond b 1 0) e)))

  -- the same told by how many lists there are, and how many of them are present
  pub admitted_number : (a : Admission) (os : List (Option A)) → by_number a (length os) (length (present os)) ≡ admitted a os
  admitted_number Every os = every_number os
  admitted_number Any os = any_number os
  admitted_number Odd os = go (in_odd os) (parity os)
    where
      go : (t : Bool) → cond t 1 0 ≡ length (present os) % 2 → eqb (length (present os) % 2) 1 ≡ t
      go true e = eq-eqb (length (present os) % 2) 1 (sym e)
      go false e = ne_eqb (length (present os) % 2) 1 (λ q. omega arith)

  pub admitted_exactly : (a : Admission) (os : List (Option A)) → (admitted a os ≡ true) ↔ Admits a os
  admitted_exactly Every os = (every_place os, place_every os)
  admitted_exactly Any os = (some_place os, λ s. place_some os s.0 s.1)
  admitted_exactly Odd os = odd_number os (in_odd os) refl

  -- v stands at place i, and no later place has anything
  pub record Last (os : List (Option A)) (v : A) : Type 0 where
    pub place : ℕ
    pub there : get_or os place None ≡ Some v
    pub later : (j : ℕ) → place < j → get_or os j None ≡ None

  -- of one place and the rest
  all_none : (o : Option A) (os : List (Option A)) → o ≡ None → ((i : ℕ) → get_or os i None ≡ None) → (i : ℕ) → get_or (o ∷ os) i None ≡ None
  all_none o os e f zero = e
  all_none o os e f (suc i) = f i

  here_last : (o : Option A) (os : List (Option A)) (v : A) → o ≡ Some v → ((i : ℕ) → get_or os i None ≡ None) → Last (o ∷ os) v
  here_last o os v e f = record { place = 0; there = e; later = later }
    where
      later : (j : ℕ) → 0 < j → get_or (o ∷ os) j None ≡ None
      later zero h = absurd (omega arith)
      later (suc j) h = f j

  later_last : (o : Option A) (os : List (Option A)) (v : A) → Last os v → Last (o ∷ os) v
  later_last o os v l = record { place = suc l.place; there = l.there; later = later }
    where
      later : (j : ℕ) → suc l.place < j → get_or (o ∷ os) j None ≡ None
      later zero h = absurd (omega arith)
      later (suc j) h = l.later j (omega arith)

  last_cases : (o : Option A) (os : List (Option A)) (v : A) → Last (o ∷ os) v → ((o ≡ Some v) × ((i : ℕ) → get_or os i None ≡ None)) ⊎ Last os v
  last_cases o os v l = go l.place l.there l.later
    where
      go : (p : ℕ) → get_or (o ∷ os) p None ≡ Some v → ((j : ℕ) → p < j → get_or (o ∷ os) j None ≡ None) → ((o ≡ Some v) × ((i : ℕ) → get_or os i None ≡ None)) ⊎ Last os v
      go zero e f = inl (e, λ i. f (suc i) (omega arith))
      go (suc p) e f = inr (record { place = p; there = e; later = λ j h. f (suc j) (omega arith) })

  pub highest_none : (os : List (Option A)) → (picked Highest os ≡ None) ↔ ((i : ℕ) → get_or os i None ≡ None)
  highest_none [] = (λ e i. refl, λ f. refl)
  highest_none (o ∷ os) = go (highest os) refl (highest_none os)
    where
      go : (l : Option A) → highest os ≡ l → (highest os ≡ None) ↔ ((i : ℕ) → get_or os i None ≡ None) → (cond (there l) l o ≡ None) ↔ ((i : ℕ) → get_or (o ∷ os) i None ≡ None)
      go None q rest = (λ e. all_none o os e (rest.0 q), λ f. f 0)
      go (Some u) q rest = (λ e. absurd (none-some u (sym e)), λ f. absurd (none-some u (sym (rest.1 (λ i. f (suc i))) ∙ q)))

  pub highest_exactly : (os : List (Option A)) (v : A) → (picked Highest os ≡ Some v) ↔ Last os v
  highest_exactly [] v = (λ e. absurd (none-some v e), λ l. absurd (none-some v l.there))
  highest_exactly (o ∷ os) v = go (highest os) refl (highest_exactly os v)
    where
      go : (l : Option A) → highest os ≡ l → (highest os ≡ Some v) ↔ Last os v → (cond (there l) l o ≡ Some v) ↔ Last (o ∷ os) v
      go None q rest = (λ e. here_last o os v e ((highest_none os).0 q), λ l. ⊎_elim (λ h. h.0) (λ r. absurd (none-some v (sym q ∙ rest.1 r))) (last_cases o os v l))
      go (Some u) q rest = (λ e. later_last o os v (rest.0 (q ∙ e)), λ l. ⊎_elim (λ h. absurd (none-some u (sym ((highest_none os).1 h.1) ∙ q))) (λ r. sym q ∙ rest.1 r) (last_cases o os v l))

-- what each operation says of what the lists have: whether it admits them, and with which value
module _ (os : List (Option ℤ)) (v : ℤ) where
  rule_exactly : (o : Operation) → (rule_of o os ≡ Some v) ↔ (Admits (admission o) os × (value_of o os ≡ Some v))
  rule_exactly o = go (admitted (admission o) os) refl
    where
      go : (t : Bool) → admitted (admission o) os ≡ t → (cond t (value_of o os) None ≡ Some v) ↔ (Admits (admission o) os × (value_of o os ≡ Some v))
      go true e = (λ q. ((admitted_exactly (admission o) os).0 e, q), λ h. h.1)
      go false e = (λ q. absurd (none-some v q), λ h. absurd (true≢false (sym ((admitted_exactly (admission o) os).1 h.0) ∙ e)))

  pub inner_exactly : (c : ℕ) → (rule_of (inner c) os ≡ Some v) ↔ (((i : ℕ) → i < length os → Something (get_or os i None)) × (combine c (present os) ≡ Some v))
  inner_exactly c = rule_exactly (inner c)

  pub full_exactly : (c : ℕ) → (rule_of (full c) os ≡ Some v) ↔ (((i : ℕ) × Something (get_or os i None)) × (combine c (present os) ≡ Some v))
  full_exactly c = rule_exactly (full c)

  pub union_exactly : (rule_of union os ≡ Some v) ↔ Last os v
  union_exactly = (λ q. (highest_exactly os v).0 ((rule_exactly union).0 q).1, λ l. (rule_exactly union).1 ((l.place, (v, l.there)), (highest_exactly os v).1 l))

  pub symmetric_difference_exactly : (rule_of symmetric_difference os ≡ Some v) ↔ ((length (present os) % 2 ≡ 1) × Last os v)
  symmetric_difference_exactly = (λ q. let h = (rule_exactly symmetric_difference).0 q in (h.0, (highest_exactly os v).0 h.1), λ h. (rule_exactly symmetric_difference).1 (h.0, (highest_exactly os v).1 h.1))
