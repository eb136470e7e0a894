-- Each refusal of a file is given exactly when it is due and none of an earlier turn is. Assumes nothing.
use Prim.Native.Nat.{ℕ, ◌+◌, ◌<◌}
use mathlib.Core.Path.{◌≡◌, refl, sym, ap, subst, ◌∙◌}
use mathlib.Core.Logic.{◌↔◌, ◌⊎◌, inl, inr, ⊎_elim}
use mathlib.Core.Bool.{Bool, true, false, cond}
use Rattle.std.specs.declared.option.Option.{Option}
use Rattle.std.specs.declared.option.Option.TheVariants.{None, Some}
use mathlib.Core.List.{List, [], ◌∷◌}
use native.Mathlib.Omega.{arith}
use lib.Dec.{ltb, leb}
use lib.ListN.{length}
use borrow.Author.Tests.{ltb-true, ltb-false, leb-false, lt-leb}
use Rattle.tariff_file.specs.Layout.{Bytes, Layout}
use Rattle.tariff_file.specs.Reader.{Parsed, stop, got, Fault, judged, one}
use Rattle.tariff_file.specs.File.{list_layout, task_of, lists_right, combiner_right, File, unless, asked_of, read_file, refused, finish, records_of, read}
use Rattle.tariff_file.specs.Given.{Whole, Awaiting, the_head, a_list, a_range, said_by, operation, combiner, lists, Due, turn, Given}
use Rattle.tariff_file.specs.declared.Refusal.{Refusal}
use Rattle.tariff_file.specs.declared.Refusal.TheVariants.{TooLong, WrongMark, CutShort, LeftOver, UnknownOperation, TooManyLists, NotTwoLists, UnknownCombiner, TooManyRanges}
use Rattle.tariff_file.specs.declared.Task.{Task}
use Rattle.tariff_file.proofs.Stops.{Unmarked, Short, Ends, unmarked, short, whole, ends}
use Rattle.tariff_file.proofs.File.{file_format, records_short, records_long}
use Rattle.tariff_file.proofs.Read.{read_refused}
use Rattle.tariff_file.proofs.Halts.{before, fault, comes, Halt, halts}

-- a fault, which q is or comes after
abbrev Early : Fault → ℕ → Refusal → Type 0
Early f at q = (g : ℕ → Refusal) × (f ≡ Some g) × ((g at ≡ q) ⊎ (turn (g at) < turn q))

unless_here : (t : Bool) (r : ℕ → Refusal) (next : Fault) (at : ℕ) → t ≡ false → Early (unless t r next) at (r at)
unless_here t r next at e = (r, (λ i. unless (e i) r next), inl refl)

unless_early : (t : Bool) (r : ℕ → Refusal) (next : Fault) (at : ℕ) (q : Refusal) → turn (r at) < turn q → Early next at q → Early (unless t r next) at q
unless_early true r next at q h e = e
unless_early false r next at q h e = (r, refl, inr h)

-- the test that failed
unless_some : (t : Bool) (r : ℕ → Refusal) (next : Fault) (g : ℕ → Refusal) → unless t r next ≡ Some g → ((t ≡ false) × (r ≡ g)) ⊎ (next ≡ Some g)
unless_some true r next g e = inr e
unless_some false r next g e = inl (refl, cc)

none_some : {A : Type 0} {g : ℕ → Refusal} → ◌≡◌ {A = Fault} None (Some g) → A
none_some e = cc

module _ (b : List ℕ) where
  -- WHERE A FILE STOPS, that is due
  module _ (at : ℕ) (g : ℕ → Refusal) where
    abbrev DueBy : (ℕ → Refusal) → Type 0
    DueBy f = Due b (f at)

    head_due : at ≡ 0 → (o : Option Task) → task_of (operation b) ≡ o → asked_of o (combiner b) (lists b) ≡ Some g → DueBy g
    head_due z None q e = let w : UnknownOperation ≡ g = cc in subst DueBy w (z, q)
    head_due z (Some k) q e =
        let combined = unless (combiner_right k (combiner b)) UnknownCombiner None in
        ⊎_elim (λ x. subst DueBy x.1 (z, leb-false (lists b) 16 x.0))
        (λ e. ⊎_elim (λ x. subst DueBy x.1 (z, k, q, x.0))
        (λ e. ⊎_elim (λ x. subst DueBy x.1 (z, k, q, x.0)) none_some (unless_some (combiner_right k (combiner b)) UnknownCombiner None g e))
        (unless_some (lists_right k (lists b)) NotTwoLists combined g e))
        (unless_some (leb (lists b) 16) TooManyLists (unless (lists_right k (lists b)) NotTwoLists combined) g e)

  value_due : {l : Layout} {at : ℕ} {c : List ℕ} (w : Awaiting b l at c) (g : ℕ → Refusal) → fault b w (said_by l c) ≡ Some g → Due b (g at)
  value_due the_head g e = head_due 0 g refl (task_of (operation b)) refl e
  value_due {at = at} {c = c} (a_list p) g e =
      let n = before b p + (said_by list_layout c).0 in
      ⊎_elim (λ x. subst (λ (f : ℕ → Refusal). Due b (f at)) x.1 (c, p, leb-false n 2048 x.0)) none_some (unless_some (leb n 2048) TooManyRanges None g e)
  value_due (a_range p) g e = none_some e

  halt_due : (r : Refusal) → Halt b r → Due b r
  halt_due r h = go h.awaiting (ends h.layout (fault b h.awaiting) h.at h.rest) h.stops
    where
      judge : {l : Layout} {at : ℕ} {c : List ℕ} (w : Awaiting b l at c) (f : Fault) → fault b w (said_by l c) ≡ f → (m : ℕ) (d : List ℕ) → judged f at (got (said_by l c) m d) ≡ stop r → Due b r
      judge w None q m d e = cc
      judge {at = at} w (Some g) q m d e = let z : g at ≡ r = cc in subst (Due b) z (value_due w g q)

      go : {l : Layout} {at : ℕ} {c : List ℕ} (w : Awaiting b l at c) → Ends l (fault b w) at c → one l (fault b w) at c ≡ stop r → Due b r
      go {l} {at} {c} w (unmarked u e) s = let z : WrongMark at ≡ r = cc in subst (Due b) z (l, c, w, u.0, u.1)
      go {l} {at} {c} w (short k u e) s = let z : CutShort at ≡ r = cc in subst (Due b) z (l, c, w, k)
      go {l} {at} {c} w (whole k u m d e) s = judge w (fault b w (said_by l c)) refl m d (sym e ∙ s)

  file_due : (r : Refusal) → Bytes b → records_of b ≡ refused r → Due b r
  unfolding records_of
  file_due r y e = long (ltb 45126 (length b)) refl e
    where
      go : (x : Parsed File) → read_file 0 b ≡ x → finish x ≡ refused r → Due b r
      go (stop s) q e = let z : s ≡ r = cc in halt_due r (halts b r y (q ∙ ap {B = Parsed File} stop z))
      go (got (h, ls) at []) q e = cc
      go (got (h, ls) at (x ∷ c)) q e =
          let z : LeftOver at ≡ r = cc in
          let f = file_format.only 0 b (h, ls) at (x ∷ c) y q in
          let w = subst (λ (rs : List (List ℕ)). Whole rs 0 b at (x ∷ c)) f.fits.0 (record { same = f.whole; place = f.place }) in
          subst (Due b) z (h, ls, x ∷ c, f.fits.1, w, omega arith)

      long : (t : Bool) → ltb 45126 (length b) ≡ t → cond t (refused TooLong) (finish (read_file 0 b)) ≡ refused r → Due b r
      long true q e = let z : TooLong ≡ r = cc in subst (Due b) z (ltb-true 45126 (length b) q)
      long false q e = go (read_file 0 b) refl e

  -- AND WHERE A REFUSAL IS DUE, it is given, or one of an earlier turn
  abbrev Met : Refusal → Type 0
  Met q = (r : Refusal) × (records_of b ≡ refused r) × ((r ≡ q) ⊎ (turn r < turn q))

  finished : (q r : Refusal) → 0 < turn q → (r ≡ q) ⊎ (turn r < turn q) → finish (read_file 0 b) ≡ refused r → Met q
  finished q r l o e = go (ltb 45126 (length b)) refl
    where
      go : (t : Bool) → ltb 45126 (length b) ≡ t → Met q
      go true t = (TooLong, records_long b (ltb-true 45126 (length b) t), inr l)
      go false t = (r, records_short b (ltb-false 45126 (length b) t) ∙ e, o)

  -- at a record that is awaited, by how it ends
  record_met : {l : Layout} {at : ℕ} {c : List ℕ} (w : Awaiting b l at c) (q : Refusal) → 0 < turn q
      → (Unmarked l (fault b w) at c → (WrongMark at ≡ q) ⊎ (turn (WrongMark at) < turn q))
      → (Short l (fault b w) at c → (Unmarked l (fault b w) at c → ⊥) → (CutShort at ≡ q) ⊎ (turn (CutShort at) < turn q))
      → ((Short l (fault b w) at c → ⊥) → (Unmarked l (fault b w) at c → ⊥) → Early (fault b w (said_by l c)) at q)
      → Met q
  record_met {l} {at} {c} w q some_turn mark cut value = go (ends l (fault b w) at c)
    where
      go : Ends l (fault b w) at c → Met q
      go (unmarked u e) = finished q (WrongMark at) some_turn (mark u) (ap finish (comes b w (WrongMark at) e))
      go (short s u e) = finished q (CutShort at) some_turn (cut s u) (ap finish (comes b w (CutShort at) e))
      go (whole s u m d e) =
          let (g, f, o) = value s u in
          finished q (g at) some_turn o (ap finish (comes b w (g at) (e ∙ ap (λ f. judged f at (got (said_by l c) m d)) f)))

  value_met : {l : Layout} {at : ℕ} {c : List ℕ} (w : Awaiting b l at c) (q : Refusal) → 2 < turn q → Early (fault b w (said_by l c)) at q → Met q
  value_met w q h f = record_met w q (omega arith) (λ u. inr (omega arith)) (λ s u. inr (omega arith)) (λ s u. f)

  head_met : (at : ℕ) → at ≡ 0 → (o : Option Task) → task_of (operation b) ≡ o → (q : ℕ → Refusal) → 2 < turn (q 0) → Early (asked_of o (combiner b) (lists b)) 0 (q 0) → Met (q at)
  head_met at z o e q l f = subst (λ (k : ℕ). Met (q k)) (sym z) (value_met the_head (q 0) l (subst (λ o. Early (asked_of o (combiner b) (lists b)) 0 (q 0)) (sym e) f))

  many_lists : 16 < lists b → (o : Option Task) → Early (asked_of o (combiner b) (lists b)) 0 (TooManyLists 0)
  many_lists l None = (UnknownOperation, refl, inr (omega arith))
  many_lists l (Some k) = unless_here (leb (lists b) 16) TooManyLists _ 0 (lt-leb (lists b) 16 l)

  met : (q : Refusal) → Due b q → Met q
  met TooLong d = (TooLong, records_long b d, inl refl)
  met (WrongMark at) (l, c, w, m, n) = record_met w (WrongMark at) (omega arith) (λ u. inl refl) (λ s u. absurd (u (m, n))) (λ s u. absurd (u (m, n)))
  met (CutShort at) (l, c, w, h) = record_met w (CutShort at) (omega arith) (λ u. inr (omega arith)) (λ s u. inl refl) (λ s u. absurd (s h))
  met (UnknownOperation at) (z, e) = head_met at z None e UnknownOperation (omega arith) (UnknownOperation, refl, inl refl)
  met (TooManyLists at) (z, l) = head_met at z (task_of (operation b)) refl TooManyLists (omega arith) (many_lists l (task_of (operation b)))
  met (NotTwoLists at) (z, k, e, f) = head_met at z (Some k) e NotTwoLists (omega arith) (unless_early (leb (lists b) 16) TooManyLists _ 0 (NotTwoLists 0) (omega arith) (unless_here (lists_right k (lists b)) NotTwoLists _ 0 f))
  met (UnknownCombiner at) (z, k, e, f) =
      let q = UnknownCombiner 0 in
      head_met at z (Some k) e UnknownCombiner (omega arith)
      (unless_early (leb (lists b) 16) TooManyLists _ 0 q (omega arith) (unless_early (lists_right k (lists b)) NotTwoLists _ 0 q (omega arith) (unless_here (combiner_right k (combiner b)) UnknownCombiner None 0 f)))
  met (TooManyRanges at) (c, g, l) =
      let n = before b g + (said_by list_layout c).0 in
      value_met (a_list g) (TooManyRanges at) (omega arith) (unless_here (leb n 2048) TooManyRanges None at (lt-leb n 2048 l))
  met (LeftOver at) (h, ls, c, s, w, l) =
      finished (LeftOver at) (LeftOver at) (omega arith) (inl refl)
      (ap finish ((λ i. read_file 0 (w.same i)) ∙ (file_format.reads (h, ls) s).whole 0 c ∙ ap (λ (m : ℕ). got (h, ls) m c) (sym w.place)) ∙ left c l)
    where
      left : (c : List ℕ) → 0 < length c → finish (got (h, ls) at c) ≡ refused (LeftOver at)
      left [] l = absurd (omega arith)
      left (x ∷ c) l = refl

  module _ (y : Bytes b) where
    given : (r : Refusal) → records_of b ≡ refused r → Given b r
    given r e = (file_due r y e, λ q l d. let (p, f, o) = met q d in later p q f o l)
      where
        later : (p q : Refusal) → records_of b ≡ refused p → (p ≡ q) ⊎ (turn p < turn q) → turn q < turn r → ⊥
        later p q f o l = let z : p ≡ r = cc in ⊎_elim (λ h. omega (arith, ap turn h, ap turn z)) (λ h. omega (arith, ap turn z)) o

    is_given : (r : Refusal) → Given b r → records_of b ≡ refused r
    is_given r (d, clear) = let (p, f, o) = met r d in ⊎_elim (λ e. f ∙ ap refused e) (λ l. absurd (clear p l (file_due p y f))) o

    -- each refusal is given exactly when it is due and none of an earlier turn is
    pub refused_exactly : (r : Refusal) → (read b ≡ refused r) ↔ Given b r
    refused_exactly r = (λ e. given r ((read_refused b r).0 e), λ g. (read_refused b r).1 (is_given r g))

    -- and no two are
    pub given_only : (r q : Refusal) → Given b r → Given b q → r ≡ q
    given_only r q g h = let e = sym (is_given r g) ∙ is_given q h in cc
