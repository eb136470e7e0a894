-- Two-way operations: what each cuts and keeps, and that values alter no start, end or presence. Assumes nothing.
use Prim.Native.Nat.{ℕ, ◌+◌, ◌-◌, ◌≤◌, ◌<◌, min}
use mathlib.Core.Path.{◌≡◌, refl, sym, ◌∙◌, ap}
use mathlib.Core.Logic.{◌↔◌, ◌⊎◌, inl, inr, ⊎_elim}
use mathlib.Core.Bool.{Bool, true, false, cond, true≢false, false≢true}
use Rattle.std.specs.declared.option.Option.{Option}
use Rattle.std.specs.declared.option.Option.TheVariants.{None, Some}
use mathlib.Core.List.{List, [], ◌∷◌}
use native.Mathlib.Omega.{arith}
use lib.IntN.{ℤ, pos}
use lib.ListN.{length, get_or, length-append, length-map, length-take, length-drop}
use Rattle.std.specs.declared.result.Result.TheVariants.{Ok, Err}
use Rattle.rules.specs.Piece.{Piece, at, Within, WellFormed, Apart, Differ}
use Rattle.rules.specs.Runs.{says}
use Rattle.rules.specs.Lists.{Width, Lent, tracks}
use Rattle.rules.specs.Answer.{Judgement, Outcome, judge, settle, laid}
use Rattle.rules.specs.declared.Pairing.{Pairing}
use Rattle.rules.specs.declared.Pairing.TheVariants.{Inner, Left, Full}
use Rattle.rules.specs.TwoWay.{Match, keeps, pair_rule, same_match, paired, kept}
use Rattle.rules.specs.Paired.{Paired, room, lay}
use Rattle.rules.specs.Outcomes.{pairing}
use Rattle.rules.specs.Proving.Below.{Below}
use Rattle.rules.specs.declared.Kind.TheVariants.{TwoWay}
use Rattle.rules.proofs.At.{at_in, at_before, at_after, at_early, le_or_lt}
use Rattle.std.proofs.lemmas.Option.{none-some}
use Rattle.rules.proofs.Same.{decides_match}
use Rattle.rules.proofs.Present.{Something, there_exactly}
use Rattle.rules.proofs.Refusals.{lacks, fits}
use Rattle.rules.proofs.Runs.{runs_below, runs_only}

module _ (o : Pairing) (n : ℕ) (l r : List (Piece ℕ)) (u : WellFormed n l) (w : WellFormed n r) where
  -- ascending, exactly the points that the operation keeps, each with the places that cover it, and touching pieces differ in one
  pub paired_cut : Below n (paired o n (l ∷ r ∷ [])) (λ p. cond (keeps o (at l p, at r p)) (Some (at l p, at r p)) None)
  unfolding paired
  paired_cut = runs_below same_match decides_match (pair_rule o) n (l ∷ r ∷ []) (u, (w, tt))

  -- the only such list
  pub paired_only : (xs : List (Piece Match)) → Below n xs (says (pair_rule o) (l ∷ r ∷ [])) → xs ≡ paired o n (l ∷ r ∷ [])
  unfolding paired
  paired_only = runs_only same_match decides_match (pair_rule o) n (l ∷ r ∷ []) (u, (w, tt))

-- what each operation admits of what the left and the right have: both, the left, or either
abbrev pub Covers : Pairing → Option ℕ → Option ℕ → Type 0
Covers Inner a b = Something a × Something b
Covers Left a b = Something a
Covers Full a b = Something a ⊎ Something b

covers : (o : Pairing) (a b : Option ℕ) → keeps o (a, b) ≡ true → Covers o a b
covers Inner (Some i) (Some j) e = ((i, refl), (j, refl))
covers Inner (Some i) None e = absurd (false≢true e)
covers Inner None b e = absurd (false≢true e)
covers Left a b e = (there_exactly a).0 e
covers Full (Some i) b e = inl (i, refl)
covers Full None b e = inr ((there_exactly b).0 e)

leaves_out : (o : Pairing) (a b : Option ℕ) → keeps o (a, b) ≡ false → Covers o a b → ⊥
leaves_out Inner None b e c = none-some c.0.0 c.0.1
leaves_out Inner (Some i) b e c = true≢false (sym ((there_exactly b).1 c.1) ∙ e)
leaves_out Left a b e c = true≢false (sym ((there_exactly a).1 c) ∙ e)
leaves_out Full (Some i) b e c = true≢false e
leaves_out Full None b e (inl c) = none-some c.0 c.1
leaves_out Full None b e (inr c) = true≢false (sym ((there_exactly b).1 c) ∙ e)

module _ (o : Pairing) (n : ℕ) (l r : List (Piece ℕ)) (u : WellFormed n l) (w : WellFormed n r) where
  -- a point has the places that cover it, exactly where the operation admits them
  pub paired_at : (p : ℕ) → p < n → (m : Match) → (at (paired o n (l ∷ r ∷ [])) p ≡ Some m) ↔ ((m ≡ (at l p, at r p)) × Covers o (at l p) (at r p))
  paired_at p h m = rw ((paired_cut o n l r u w).agrees p h) (go (keeps o (at l p, at r p)) refl)
    where
      go : (t : Bool) → keeps o (at l p, at r p) ≡ t → (cond t (Some (at l p, at r p)) None ≡ Some m) ↔ ((m ≡ (at l p, at r p)) × Covers o (at l p) (at r p))
      go true e = (λ q. (cc, covers o (at l p) (at r p) e), λ c. ap Some (sym c.0))
      go false e = (λ q. absurd (none-some m q), λ c. absurd (leaves_out o (at l p) (at r p) e c.1))

module _ {A : Type 0} where
  pub within_low : (b c n : ℕ) (xs : List (Piece A)) → b ≤ c → Within c n xs → Within b n xs
  within_low b c n [] h w = omega arith
  within_low b c n (x ∷ xs) h w = (omega arith, w.1, w.2)

  -- past a gap
  apart_gap : (b c n : ℕ) (v : A) (xs : List (Piece A)) → b < c → Within c n xs → Apart b v xs
  apart_gap b c n v [] h w = tt
  apart_gap b c n v (x ∷ xs) h w = λ q. absurd (omega arith)

module _ {A : Type 0} (test : A → Bool) where
  -- the pieces whose value passes a test, and what a point then has
  abbrev pub only : List (Piece A) → List (Piece A)
  only [] = []
  only (x ∷ xs) = let rest = only xs in cond (test x.value) (x ∷ rest) rest

  abbrev pub passed : Option A → Option A
  passed None = None
  passed (Some v) = cond (test v) (Some v) None

  only_within : (b c : ℕ) (xs : List (Piece A)) → Within b c xs → Within b c (only xs)
  only_within b c [] w = w
  only_within b c (x ∷ xs) w = go (test x.value) (only_within (x.end + 1) c xs w.2)
    where
      go : (t : Bool) → Within (x.end + 1) c (only xs) → Within b c (cond t (x ∷ only xs) (only xs))
      go true rest = (w.0, w.1, rest)
      go false rest = within_low b (x.end + 1) c (only xs) (omega arith) rest

  only_apart : (b c : ℕ) (v : A) (xs : List (Piece A)) → Within b c xs → Apart b v xs → Apart b v (only xs)
  only_apart b c v [] w a = tt
  only_apart b c v (x ∷ xs) w a = go (test x.value)
    where
      go : (t : Bool) → Apart b v (cond t (x ∷ only xs) (only xs))
      go true = a
      go false = apart_gap b (x.end + 1) c v (only xs) (omega arith) (only_within (x.end + 1) c xs w.2)

  only_differ : (b c : ℕ) (xs : List (Piece A)) → Within b c xs → Differ xs → Differ (only xs)
  only_differ b c [] w d = tt
  only_differ b c (x ∷ xs) w d = go (test x.value) (only_differ (x.end + 1) c xs w.2 d.1)
    where
      go : (t : Bool) → Differ (only xs) → Differ (cond t (x ∷ only xs) (only xs))
      go true rest = (only_apart (x.end + 1) c x.value xs w.2 d.0, rest)
      go false rest = rest

  only_at : (b c : ℕ) (xs : List (Piece A)) → Within b c xs → (p : ℕ) → at (only xs) p ≡ passed (at xs p)
  only_at b c [] w p = refl
  only_at b c (x ∷ xs) w p = go (test x.value) refl (only_at (x.end + 1) c xs w.2 p) (le_or_lt x.start p) (le_or_lt p x.end)
    where
      go : (t : Bool) → test x.value ≡ t → at (only xs) p ≡ passed (at xs p) → (x.start ≤ p) ⊎ (p < x.start) → (p ≤ x.end) ⊎ (x.end < p) → at (cond t (x ∷ only xs) (only xs)) p ≡ passed (at (x ∷ xs) p)
      go true e rest (inl h) (inl m) = rw (at_in x xs p h m, e) (at_in x (only xs) p h m)
      go true e rest (inl h) (inr m) = rw (at_after x xs p m) (at_after x (only xs) p m ∙ rest)
      go true e rest (inr h) m = rw (at_before x xs p h) (at_before x (only xs) p h ∙ rest)
      go false e rest (inl h) (inl m) = rw (at_in x xs p h m, e) (at_early (x.end + 1) c (only xs) (only_within (x.end + 1) c xs w.2) p (omega arith))
      go false e rest (inl h) (inr m) = rw (at_after x xs p m) rest
      go false e rest (inr h) m = rw (at_before x xs p h) rest

  pub only_below : (c : ℕ) (xs : List (Piece A)) (f : ℕ → Option A) → Below c xs f → Below c (only xs) (λ p. passed (f p))
  only_below c xs f b =
      let w = b.canonical.0 in
      record { canonical = (only_within 0 c xs w, only_differ 0 c xs w b.canonical.1); agrees = λ p h. only_at 0 c xs w p ∙ ap passed (b.agrees p h) }

kept_only : (o : Pairing) (xs : List (Piece Match)) → kept o xs ≡ only (keeps o) xs
kept_only o [] = refl
kept_only o (x ∷ xs) = rw (kept_only o xs)

-- full keeps whatever another keeps
full_keeps : (o : Pairing) (a b : Option ℕ) → passed (keeps o) (cond (keeps Full (a, b)) (Some (a, b)) None) ≡ cond (keeps o (a, b)) (Some (a, b)) None
full_keeps o (Some i) b = refl
full_keeps o None (Some j) = refl
full_keeps Inner None None = refl
full_keeps Left None None = refl
full_keeps Full None None = refl

-- each operation is the same cutting, with the runs that it keeps
pub paired_kept : (o : Pairing) (n : ℕ) (l r : List (Piece ℕ)) → WellFormed n l → WellFormed n r → paired o n (l ∷ r ∷ []) ≡ kept o (paired Full n (l ∷ r ∷ []))
paired_kept o n l r u w =
    let xs = paired Full n (l ∷ r ∷ []) in
    let b = only_below (keeps o) n xs _ (paired_cut Full n l r u w) in
    sym (kept_only o xs ∙ paired_only o n l r u w (only (keeps o) xs) (record { canonical = b.canonical; agrees = λ p h. b.agrees p h ∙ full_keeps o (at l p) (at r p) }))

-- two sets that differ in their values alone
pub record SameRanges {P : Type 0} (l l' : Lent P) : Type 0 where
  pub starts : l.starts ≡ l'.starts
  pub ends : l.ends ≡ l'.ends
  pub counts : l.counts ≡ l'.counts
  pub long : length l.values ≡ length l'.values

-- columns that differ in their sides' values alone
pub record Alike {P : Type 0} (c c' : Paired P) : Type 0 where
  pub start : c.start ≡ c'.start
  pub end : c.end ≡ c'.end
  pub presence : c.presence ≡ c'.presence
  pub left : length c.left ≡ length c'.left
  pub right : length c.right ≡ length c'.right

-- the same answer, and columns alike
pub record AlikeOutcomes {P : Type 0} (a b : Outcome (Paired P)) : Type 0 where
  pub answer : a.answer ≡ b.answer
  pub columns : Alike a.columns b.columns

laid_length : {A R : Type 0} (n : ℕ) (f : R → A) (xs : List R) (l : List A) → length (laid n f xs l) ≡ min n (length l) + (length xs + (length l - (n + length xs)))
laid_length n f xs l = simp (length-append, length-take, length-map, length-drop)

module _ {P : Type 0} where
  alike_by : {x y x' y' : Outcome (Paired P)} → x ≡ y → x' ≡ y' → AlikeOutcomes y y' → AlikeOutcomes x x'
  alike_by p q r = rw (p, q) r

  settle_alike : (j : Judgement) (needed room : ℕ) (b b' a a' : Paired P) → Alike b b' → Alike a a' → AlikeOutcomes (settle j needed room b a) (settle j needed room b' a')
  settle_alike (Err x) needed room b b' a a' h k = record { answer = refl; columns = h }
  settle_alike (Ok u) needed room b b' a a' h k =
      ⊎_elim
      (λ l. alike_by (fits needed room b a l) (fits needed room b' a' l) (record { answer = refl; columns = k }))
      (λ l. alike_by (lacks needed room b a l) (lacks needed room b' a' l) (record { answer = refl; columns = h }))
      (le_or_lt needed room)

  module _ (w : Width P) where
    lay_alike : (v v' : ℕ → ℤ) (xs : List (Piece Match)) (c c' : Paired P) → Alike c c' → Alike (lay w v 0 xs c) (lay w v' 0 xs c')
    lay_alike v v' xs c c' h =
        record {
          start = ap (laid 0 _ xs) h.start;
          end = ap (laid 0 _ xs) h.end;
          presence = ap (laid 0 _ xs) h.presence;
          left = simp (laid_length, h.left);
          right = simp (laid_length, h.right);
        }

    room_alike : (c c' : Paired P) → Alike c c' → room c ≡ room c'
    room_alike c c' h = cc

    -- changing values while starts and ends stay alters no piece's start, end or presence
    pub values_alter_nothing : (o : Pairing) (l l' : Lent P) (c c' : Paired P) → SameRanges l l' → Alike c c' → AlikeOutcomes (pairing w o l c) (pairing w o l' c')
    unfolding pairing
    values_alter_nothing o l l' c c' h k =
        let xs = paired o w.points (tracks w l') in
        let v : Lent P → ℕ → ℤ = λ m i. get_or m.values i (pos 0) in
        rw (h.starts, h.ends, h.counts, h.long, room_alike c c' k) (settle_alike (judge w TwoWay l') (length xs) (room c') c c' (lay w (v l) 0 xs c) (lay w (v l') 0 xs c') k (lay_alike (v l) (v l') xs c c' k))
