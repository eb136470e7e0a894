-- What lists have at a point: the value of the range that holds it, something or nothing in each place, and the values of those present. Assumes nothing.
use Prim.Native.Nat.{ℕ, zero, suc, ◌+◌, ◌≤◌, ◌<◌}
use mathlib.Core.Path.{◌≡◌, refl, sym, ap, ◌∙◌}
use mathlib.Core.Logic.{◌↔◌, ◌⊎◌, inl, inr, ⊎_elim}
use mathlib.Core.Bool.{true, false≢true}
use Rattle.std.specs.declared.option.Option.{Option}
use Rattle.std.specs.declared.option.Option.TheVariants.{None, Some}
use mathlib.Core.List.Memᴰ
use mathlib.Core.List.{List, [], ◌∷◌, ◌++◌, Memᴰ}
use native.Mathlib.Omega.{arith}
use lib.ListN.{length, get_or}
use Rattle.rules.specs.Piece.{Piece, at, column, there, present, Within}
use Rattle.rules.proofs.At.{at_in, at_before, at_after, le_or_lt}
use Rattle.std.proofs.lemmas.Option.{none-some}

module _ {A : Type 0} where
  -- x is one of the pieces and holds p
  pub record Holds (xs : List (Piece A)) (p : ℕ) (x : Piece A) : Type 0 where
    pub member : Memᴰ x xs
    pub from : x.start ≤ p
    pub upto : p ≤ x.end

  -- pieces that ascend from c on start there or later
  member_from : (c n : ℕ) (x : Piece A) (xs : List (Piece A)) → Within c n xs → Memᴰ x xs → c ≤ x.start
  member_from c n x [] w m = absurd (Memᴰ.not-nil m)
  member_from c n x (y ∷ ys) w m = ⊎_elim (λ q. omega (arith, w.0, ap (λ z. z.start) q)) (λ i. omega (arith, w.0, w.1, member_from (y.end + 1) n x ys w.2 i)) (Memᴰ.cases_cons m)

  holds_at : (c n p : ℕ) (x : Piece A) (xs : List (Piece A)) → Within c n xs → Holds xs p x → at xs p ≡ Some x.value
  holds_at c n p x [] w h = absurd (Memᴰ.not-nil h.member)
  holds_at c n p x (y ∷ ys) w h =
      ⊎_elim
      (λ q. at_in y ys p (omega (arith, h.from, ap (λ z. z.start) q)) (omega (arith, h.upto, ap (λ z. z.end) q)) ∙ ap (λ z. Some z.value) (sym q))
      (λ i. at_after y ys p (omega (arith, h.from, member_from (y.end + 1) n x ys w.2 i)) ∙ holds_at (y.end + 1) n p x ys w.2 (record { member = i; from = h.from; upto = h.upto }))
      (Memᴰ.cases_cons h.member)

  at_holds : (p : ℕ) (v : A) (xs : List (Piece A)) → at xs p ≡ Some v → (x : Piece A) × Holds xs p x × (x.value ≡ v)
  at_holds p v [] e = absurd (none-some v e)
  at_holds p v (y ∷ ys) e = go (le_or_lt y.start p) (le_or_lt p y.end) (at_holds p v ys)
    where
      later : at (y ∷ ys) p ≡ at ys p → (at ys p ≡ Some v → (x : Piece A) × Holds ys p x × (x.value ≡ v)) → (x : Piece A) × Holds (y ∷ ys) p x × (x.value ≡ v)
      later q rest = let r = rest (sym q ∙ e) in (r.0, record { member = Memᴰ.tail r.1.member; from = r.1.from; upto = r.1.upto }, r.2)

      go : (y.start ≤ p) ⊎ (p < y.start) → (p ≤ y.end) ⊎ (y.end < p) → (at ys p ≡ Some v → (x : Piece A) × Holds ys p x × (x.value ≡ v)) → (x : Piece A) × Holds (y ∷ ys) p x × (x.value ≡ v)
      go (inl s) (inl t) rest = (y, record { member = Memᴰ.head refl; from = s; upto = t }, (let q = at_in y ys p s t in cc))
      go (inl s) (inr t) rest = later (at_after y ys p t) rest
      go (inr s) t rest = later (at_before y ys p s) rest

  -- in a list that ascends
  pub at_exactly : (c n : ℕ) (xs : List (Piece A)) → Within c n xs → (p : ℕ) (v : A) → (at xs p ≡ Some v) ↔ ((x : Piece A) × Holds xs p x × (x.value ≡ v))
  at_exactly c n xs w p v = (at_holds p v xs, λ h. holds_at c n p h.0 xs w h.1 ∙ ap Some h.2)

  -- list k's is in place k
  pub column_at : (ls : List (List (Piece A))) (p k : ℕ) → k < length ls → get_or (column ls p) k None ≡ at (get_or ls k []) p
  column_at [] p k h = absurd (omega arith)
  column_at (l ∷ ls) p zero h = refl
  column_at (l ∷ ls) p (suc k) h = column_at ls p k (omega arith)

  abbrev pub Something : Option A → Type 0
  Something o = (v : A) × (o ≡ Some v)

  pub there_exactly : (o : Option A) → (there o ≡ true) ↔ Something o
  there_exactly None = (λ q. absurd (false≢true q), λ s. absurd (none-some s.0 s.1))
  there_exactly (Some v) = (λ q. (v, refl), λ s. refl)

  -- the values present, in list order, each as often as it stands there
  pub present_none : present {A = A} (None ∷ []) ≡ []
  present_none = refl

  pub present_some : (v : A) → present (Some v ∷ []) ≡ v ∷ []
  present_some v = refl

  pub present_append : (os ps : List (Option A)) → present (os ++ ps) ≡ present os ++ present ps
  present_append [] ps = refl
  present_append (None ∷ os) ps = present_append os ps
  present_append (Some v ∷ os) ps = ap (λ vs. v ∷ vs) (present_append os ps)
