-- Faulty ranges: what judging lists one range after another finds, by flat index, and that lists with no fault are well formed. Assumes nothing.
use Prim.Native.Nat.{ℕ, zero, suc, ◌+◌, ◌-◌, ◌≤◌, ◌<◌}
use mathlib.Core.Path.{◌≡◌, refl, sym, ◌∙◌}
use mathlib.Core.Logic.{◌⊎◌, inl, inr, ⊎_elim}
use mathlib.Core.Bool.{Bool, true, false, not, ◌&&◌, true≢false}
use Rattle.std.specs.declared.option.Option.{Option}
use Rattle.std.specs.declared.option.Option.TheVariants.{None, Some}
use mathlib.Core.List.{List, [], ◌∷◌}
use native.Mathlib.Omega.{arith}
use lib.Dec.{ltb, leb, eqb}
use borrow.Author.Tests.{ltb-true, ltb-false, leb-true, leb-false, eqb-true, eqb-false, lt-ltb, le-ltb, lt-leb}
use Rattle.std.specs.declared.result.Result.TheVariants.{Ok, Err}
use Rattle.rules.proofs.At.{le_or_lt}
use Rattle.rules.specs.Piece.{Within, AllWellFormed}
use Rattle.rules.specs.Lists.{range, ranges, cut, total}
use Rattle.rules.specs.Answer.{Judgement, Answer, refuse, or_else, overlaps, judge_range, judge_list, judge_lists}
use Rattle.rules.specs.Refusals.{follows}
use Rattle.rules.specs.declared.Refusal.{Refusal}
use Rattle.rules.specs.declared.Refusal.TheVariants.{Backward, Overlap}

-- the test t tells whether X holds
pub record Tells (t : Bool) (X : Type 0) : Type 0 where
  pub yes : t ≡ true → X
  pub no : t ≡ false → X → ⊥

pub tells_true : (t : Bool) → Tells t (t ≡ true)
tells_true t = record { yes = λ h. h; no = λ f h. true≢false (sym h ∙ f) }

pub tells_lt : (a b : ℕ) → Tells (ltb a b) (a < b)
tells_lt a b = record { yes = ltb-true a b; no = λ f h. omega (arith, ltb-false a b f) }

pub tells_le : (a b : ℕ) → Tells (leb a b) (a ≤ b)
tells_le a b = record { yes = leb-true a b; no = λ f h. omega (arith, leb-false a b f) }

pub tells_eq : (a b : ℕ) → Tells (eqb a b) (a ≡ b)
tells_eq a b = record { yes = eqb-true a b; no = eqb-false a b }

pub tells_not : {t : Bool} {X : Type 0} → Tells t X → Tells (not t) (X → ⊥)
tells_not {t = true} h = record { yes = λ f. absurd (true≢false (sym f)); no = λ f n. n (h.yes refl) }
tells_not {t = false} h = record { yes = λ f. h.no refl; no = λ f. absurd (true≢false f) }

pub tells_both : {t u : Bool} {X Y : Type 0} → Tells t X → Tells u Y → Tells (t && u) (X × Y)
tells_both {t = true} h k = record { yes = λ f. (h.yes refl, k.yes f); no = λ f x. k.no f x.1 }
tells_both {t = false} h k = record { yes = λ f. absurd (true≢false (sym f)); no = λ f x. h.no refl x.0 }

pub tells_as : {t : Bool} {X Y : Type 0} → (X → Y) → (Y → X) → Tells t X → Tells t Y
tells_as f g h = record { yes = λ q. f (h.yes q); no = λ q y. h.no q (g y) }

-- what can be told holds if its failing is absurd
pub tells_holds : {t : Bool} {X : Type 0} → Tells t X → ((X → ⊥) → ⊥) → X
tells_holds {t = true} h n = h.yes refl
tells_holds {t = false} h n = absurd (n (h.no refl))

-- the test of what fails is false
pub tells_not_holds : {t : Bool} {X : Type 0} → Tells t X → (X → ⊥) → t ≡ false
tells_not_holds {t = true} h n = absurd (n (h.yes refl))
tells_not_holds {t = false} h n = refl

-- a names what is wrong at a place: it is backward, or, if not, it overlaps
pub data Names (B O : ℕ → Type 0) : Answer → ℕ → Type 0 where
  backward : {i : ℕ} → B i → Names B O (Err (Backward i)) i
  overlap : {i : ℕ} → (B i → ⊥) → O i → Names B O (Err (Overlap i)) i

-- no place from lo up to but not hi has a fault
abbrev pub Clean : (B O : ℕ → Type 0) → ℕ → ℕ → Type 0
Clean B O lo hi = (j : ℕ) → lo ≤ j → j < hi → B j ⊎ O j → ⊥

-- a names the first fault at the places from lo up to but not hi
pub record Fault (B O : ℕ → Type 0) (lo hi : ℕ) (a : Answer) : Type 0 where
  pub place : ℕ
  pub from : lo ≤ place
  pub below : place < hi
  pub clean : Clean B O lo place
  pub names : Names B O a place

-- what a judgement of the places from lo up to but not hi finds: no fault, or the first
pub data Finds (B O : ℕ → Type 0) (lo hi : ℕ) : Judgement → Type 0 where
  sound : Clean B O lo hi → Finds B O lo hi (Ok tt)
  refused : {r : Refusal} → Fault B O lo hi (Err r) → Finds B O lo hi (Err r)

module _ {B O : ℕ → Type 0} where
  pub names_fault : {a : Answer} {i : ℕ} → Names B O a i → B i ⊎ O i
  names_fault (backward b) = inl b
  names_fault (overlap n o) = inr o

  names_only : {a b : Answer} {i : ℕ} → Names B O a i → Names B O b i → a ≡ b
  names_only (backward b) (backward b') = refl
  names_only (backward b) (overlap n o) = absurd (n b)
  names_only (overlap n o) (backward b) = absurd (n b)
  names_only (overlap n o) (overlap n' o') = refl

  -- the first fault is named by one answer
  pub fault_only : {lo hi : ℕ} {a b : Answer} → Fault B O lo hi a → Fault B O lo hi b → a ≡ b
  fault_only f g =
      let h : f.place < g.place → ⊥ = λ l. g.clean f.place f.from l (names_fault f.names) in
      let k : g.place < f.place → ⊥ = λ l. f.clean g.place g.from l (names_fault g.names) in
      let q : g.place ≡ f.place = omega arith in
      names_only f.names (rw q at g.names)

  clean_more : {lo mid hi : ℕ} → Clean B O lo mid → Clean B O mid hi → Clean B O lo hi
  clean_more {mid} c d j h l x = ⊎_elim (λ (m : mid ≤ j). d j m l x) (λ m. c j h m x) (le_or_lt mid j)

  finds_or : {lo mid hi : ℕ} {j k : Judgement} → lo ≤ mid → mid ≤ hi → Finds B O lo mid j → Finds B O mid hi k → Finds B O lo hi (or_else j k)
  finds_or p q (sound c) (sound d) = sound (clean_more c d)
  finds_or p q (sound c) (refused g) = refused (record { place = g.place; from = omega arith; below = g.below; clean = clean_more c g.clean; names = g.names })
  finds_or p q (refused f) g = refused (record { place = f.place; from = f.from; below = omega arith; clean = f.clean; names = f.names })

  finds_none : (lo hi : ℕ) → hi ≤ lo → Finds B O lo hi (Ok tt)
  finds_none lo hi h = sound (λ j l m x. omega arith)

  finds_here : {r : Refusal} (i : ℕ) → Names B O (Err r) i → Finds B O i (suc i) (Err r)
  finds_here i n = refused (record { place = i; from = omega arith; below = omega arith; clean = λ j l m x. omega arith; names = n })

  finds_one : {t u : Bool} (i : ℕ) → Tells t (B i) → Tells u (O i) → Finds B O i (suc i) (refuse t (Backward i) (refuse u (Overlap i) (Ok tt)))
  finds_one {t = true} i h k = finds_here i (backward (h.yes refl))
  finds_one {t = false} {u = true} i h k = finds_here i (overlap (h.no refl) (k.yes refl))
  finds_one {t = false} {u = false} i h k = sound (λ j l m x. let q : j ≡ i = omega arith in ⊎_elim (h.no refl) (k.no refl) (rw q at x))

follows_in : (n : ℕ) (ns : List ℕ) (i : ℕ) → i < n → follows (n ∷ ns) i ≡ ltb 0 i
follows_in n ns i h = rw (lt-ltb i n h)

follows_later : (n : ℕ) (ns : List ℕ) (i : ℕ) → n ≤ i → follows (n ∷ ns) i ≡ follows ns (i - n)
follows_later n ns i h = rw (le-ltb i n h)

-- ranges whose starts and ends are s and e by place; O says which overlap the one before
module _ (s e : ℕ → ℕ) (O : ℕ → Type 0) where
  abbrev Back : ℕ → Type 0
  Back i = e i < s i

  finds_list : (o : Option ℕ) (i n hi : ℕ) → i + n ≡ hi → (i < hi → Tells (overlaps o (s i)) (O i)) → ((j : ℕ) → i < j → j < hi → Tells (leb (s j) (e (j - 1))) (O j)) → Finds Back O i hi (judge_list o (ranges s e (λ i. i) i n))
  finds_list o i zero hi q h r = finds_none i hi (omega arith)
  finds_list o i (suc n) hi q h r =
      let z : suc i - 1 ≡ i = omega arith in
      finds_or (omega arith) (omega arith) (finds_one i (tells_lt (e i) (s i)) (h (omega arith)))
      (finds_list (Some (e i)) (suc i) n hi (omega arith) (λ l. rw z at (r (suc i) (omega arith) l)) (λ j l m. r j (omega arith) m))

  -- over lists that lie end to end, the first faulty range by its flat index
  pub finds_lists : (i : ℕ) (ns : List ℕ) (hi : ℕ) → i + total ns ≡ hi → ((j : ℕ) → i ≤ j → j < hi → Tells (follows ns (j - i) && leb (s j) (e (j - 1))) (O j)) → Finds Back O i hi (judge_lists (cut s e (λ i. i) i ns))
  finds_lists i [] hi q h = finds_none i hi (omega arith)
  finds_lists i (n ∷ ns) hi q h =
      finds_or (omega arith) (omega arith)
      (finds_list None i n (i + n) refl
      (λ l. rw (follows_in n ns (i - i) (omega arith), le-ltb 0 (i - i) (omega arith)) at (h i (omega arith) (omega arith)))
      (λ j l m. rw (follows_in n ns (j - i) (omega arith), lt-ltb 0 (j - i) (omega arith)) at (h j (omega arith) (omega arith))))
      (finds_lists (i + n) ns hi (omega arith) (λ j l m. let z : (j - i) - n ≡ j - (i + n) = omega arith in rw (follows_later n ns (j - i) (omega arith), z) at (h j (omega arith) m)))

-- what is sound was refused nowhere on the way
past_refuse : (t : Bool) (r : Refusal) (next : Judgement) → refuse t r next ≡ Ok tt → (t ≡ false) × (next ≡ Ok tt)
past_refuse true a next h = let z : ◌≡◌ {A = ℕ} 0 1 = cc in absurd (omega arith)
past_refuse false a next h = (refl, h)

past_or : (j k : Judgement) → or_else j k ≡ Ok tt → (j ≡ Ok tt) × (k ≡ Ok tt)
past_or (Ok u) k h = (refl, h)
past_or (Err r) k h = let z : ◌≡◌ {A = ℕ} 0 1 = cc in absurd (omega arith)

-- the least point that may come after an end
abbrev after : Option ℕ → ℕ
after None = 0
after (Some p) = p + 1

beyond : (o : Option ℕ) (p : ℕ) → overlaps o p ≡ false → after o ≤ p
beyond None p h = omega arith
beyond (Some q) p h = omega (arith, leb-false p q h)

not_over : (o : Option ℕ) (p : ℕ) → after o ≤ p → overlaps o p ≡ false
not_over None p h = refl
not_over (Some q) p h = lt-leb p q (omega arith)

-- and what is refused nowhere is sound
pub not_refused : {t : Bool} (r : Refusal) {next : Judgement} → t ≡ false → next ≡ Ok tt → refuse t r next ≡ Ok tt
not_refused a p q = rw (p, q)

-- well-formed lists have no fault
module _ (s e : ℕ → ℕ) (points : ℕ) where
  clear : (o : Option ℕ) (i m : ℕ) → Within (after o) points (ranges s e (λ i. i) i m) → judge_list o (ranges s e (λ i. i) i m) ≡ Ok tt
  clear o i zero w = refl
  clear o i (suc m) w =
      let r : judge_range o (range s e (λ i. i) i) ≡ Ok tt = not_refused (Backward i) (le-ltb (e i) (s i) w.1) (not_refused (Overlap i) (not_over o (s i) w.0) refl) in
      rw r (clear (Some (e i)) (suc i) m w.2)

  pub all_clear : (i : ℕ) (ns : List ℕ) → AllWellFormed points (cut s e (λ i. i) i ns) → judge_lists (cut s e (λ i. i) i ns) ≡ Ok tt
  all_clear i [] w = refl
  all_clear i (m ∷ ns) w = rw (clear None i m w.0) (all_clear (i + m) ns w.1)

-- well-formed lists are so whatever their values are
module _ {A B : Type 0} (s e : ℕ → ℕ) (v : ℕ → A) (u : ℕ → B) (points : ℕ) where
  within_values : (c i m : ℕ) → Within c points (ranges s e v i m) → Within c points (ranges s e u i m)
  within_values c i zero w = w
  within_values c i (suc m) w = (w.0, w.1, within_values (e i + 1) (suc i) m w.2)

  pub formed_values : (i : ℕ) (ns : List ℕ) → AllWellFormed points (cut s e v i ns) → AllWellFormed points (cut s e u i ns)
  formed_values i [] w = tt
  formed_values i (m ∷ ns) w = (within_values 0 i m w.0, formed_values (i + m) ns w.1)

-- lists with no fault, at places below n whose ends are among the points, are well formed whatever their values are
module _ {A : Type 0} (s e : ℕ → ℕ) (v : ℕ → A) (points n : ℕ) (low : (i : ℕ) → i < n → e i < points) where
  formed : (o : Option ℕ) (i m : ℕ) → i + m ≤ n → after o ≤ points → judge_list o (ranges s e (λ i. i) i m) ≡ Ok tt → Within (after o) points (ranges s e v i m)
  formed o i zero b l h = l
  formed o i (suc m) b l h =
      let p = past_or (judge_range o (range s e (λ i. i) i)) _ h in
      let q = past_refuse _ _ _ p.0 in
      let r = past_refuse _ _ _ q.1 in
      (beyond o (s i) r.0, ltb-false (e i) (s i) q.0, formed (Some (e i)) (suc i) m (omega arith) (omega (arith, low i (omega arith))) p.1)

  pub all_formed : (i : ℕ) (ns : List ℕ) → i + total ns ≤ n → judge_lists (cut s e (λ i. i) i ns) ≡ Ok tt → AllWellFormed points (cut s e v i ns)
  all_formed i [] b h = tt
  all_formed i (m ∷ ns) b h =
      let p = past_or (judge_list None (ranges s e (λ i. i) i m)) _ h in
      (formed None i m (omega arith) (omega arith) p.0, all_formed (i + m) ns (omega arith) p.1)
