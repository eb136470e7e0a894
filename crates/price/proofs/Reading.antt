-- On ascending pieces the price at a point is what `at` of the rules says, and so it is on columns with ascending pieces laid at the front. Assumes nothing.
use Prim.Native.Nat.{ℕ, zero, suc, ◌+◌, ◌≤◌, ◌<◌}
use mathlib.Core.Path.{◌≡◌, refl, sym, ap, ◌∙◌}
use mathlib.Core.Logic.{◌⊎◌, inl, inr}
use Rattle.std.specs.declared.option.Option.{Option}
use Rattle.std.specs.declared.option.Option.TheVariants.{None, Some}
use mathlib.Core.List.{List, [], ◌∷◌, ◌++◌, map}
use native.Mathlib.Omega.{arith}
use lib.IntN.{ℤ, pos}
use lib.ListN.{length, get_or, drop, length-append, length-map}
use borrow.Author.Tests.{le-leb, lt-leb, lt-ltb}
use Rattle.rules.specs.Piece.{Piece, Range, at, Within}
use Rattle.rules.specs.Lists.{Width, keys, range, ranges}
use Rattle.rules.specs.Merged.{Merged, lay}
use Rattle.rules.proofs.At.{at_in, at_before, at_after, le_or_lt, within_le}
use Rattle.integer.specs.Faithful.{Faithful}
use Rattle.price.specs.Reading.{found, charge, piece, places, price_at}
use Rattle.price.proofs.Halving.{Last, found_last}

module _ {A : Type 0} (x : Piece A) (p : ℕ) where
  charge_in : x.start ≤ p → p ≤ x.end → charge x p ≡ Some x.value
  charge_in h l = rw (le-leb x.start p h, le-leb p x.end l)

  charge_before : p < x.start → charge x p ≡ None
  charge_before h = rw (lt-leb x.start p h)

  charge_after : x.start ≤ p → x.end < p → charge x p ≡ None
  charge_after h l = rw (le-leb x.start p h, lt-leb p x.end l)

-- the ranges at places, which ascend
module _ {A : Type 0} (s e : ℕ → ℕ) (v : ℕ → A) where
  starts_from : (b d i n : ℕ) → Within b d (ranges s e v i n) → (j : ℕ) → i ≤ j → j < i + n → (b ≤ s j) × (s j ≤ e j)
  starts_from b d i zero w j l h = absurd (omega arith)
  starts_from b d i (suc n) w j l h = go (le_or_lt j i) (λ k. starts_from (e i + 1) d (suc i) n w.2 j k (omega arith))
    where
      go : (j ≤ i) ⊎ (i < j) → (suc i ≤ j → (e i + 1 ≤ s j) × (s j ≤ e j)) → (b ≤ s j) × (s j ≤ e j)
      go (inl k) later = let q : j ≡ i = omega arith in rw q (w.0, w.1)
      go (inr k) later = let r = later k in (omega arith, r.1)

  ascending : (b d i n : ℕ) → Within b d (ranges s e v i n) → (j k : ℕ) → i ≤ j → j < k → k < i + n → e j < s k
  ascending b d i zero w j k l m h = absurd (omega arith)
  ascending b d i (suc n) w j k l m h = go (le_or_lt j i) (λ z. ascending (e i + 1) d (suc i) n w.2 j k z m (omega arith))
    where
      go : (j ≤ i) ⊎ (i < j) → (suc i ≤ j → e j < s k) → e j < s k
      go (inl z) later = let q : j ≡ i = omega arith in let r = starts_from (e i + 1) d (suc i) n w.2 k (omega arith) (omega arith) in rw q (omega arith)
      go (inr z) later = later z

  beyond : (p i n : ℕ) → ((j : ℕ) → i ≤ j → j < i + n → p < s j) → at (ranges s e v i n) p ≡ None
  beyond p i zero h = refl
  beyond p i (suc n) h = at_before (range s e v i) (ranges s e v (suc i) n) p (h i (omega arith) (omega arith)) ∙ beyond p (suc i) n (λ j l m. h j (omega arith) (omega arith))

  -- the last range that starts no later than p says what there is at p
  at_last : (p b d i n : ℕ) → Within b d (ranges s e v i n) → (k : ℕ) → i ≤ k → k < i + n → s k ≤ p → ((j : ℕ) → k < j → j < i + n → p < s j) → at (ranges s e v i n) p ≡ charge (range s e v k) p
  at_last p b d i zero w k l m low high = absurd (omega arith)
  at_last p b d i (suc n) w k l m low high = go (le_or_lt k i) (λ z. at_last p (e i + 1) d (suc i) n w.2 k z (omega arith) low (λ j a y. high j a (omega arith)))
    where
      here : s i ≤ p → ((j : ℕ) → i < j → j < i + suc n → p < s j) → at (ranges s e v i (suc n)) p ≡ charge (range s e v i) p
      here a z = split (le_or_lt p (e i))
        where
          split : (p ≤ e i) ⊎ (e i < p) → at (ranges s e v i (suc n)) p ≡ charge (range s e v i) p
          split (inl y) = at_in (range s e v i) (ranges s e v (suc i) n) p a y ∙ sym (charge_in (range s e v i) p a y)
          split (inr y) = at_after (range s e v i) (ranges s e v (suc i) n) p y ∙ beyond p (suc i) n (λ j f g. z j f (omega arith)) ∙ sym (charge_after (range s e v i) p a y)

      go : (k ≤ i) ⊎ (i < k) → (suc i ≤ k → at (ranges s e v (suc i) n) p ≡ charge (range s e v k) p) → at (ranges s e v i (suc n)) p ≡ charge (range s e v k) p
      go (inl z) later = let q : k ≡ i = omega arith in rw q (here (rw q at low) (λ j a y. high j (omega arith) y))
      go (inr z) later = at_after (range s e v i) (ranges s e v (suc i) n) p (omega (arith, ascending b d i (suc n) w i k (omega arith) z m)) ∙ later z

  -- halving finds it
  reads : (p d n : ℕ) → Within 0 d (ranges s e v 0 n) → 0 < n → charge (range s e v (found s p n)) p ≡ at (ranges s e v 0 n) p
  reads p d n w h = go (le_or_lt (s 0) p)
    where
      ascend : (i j : ℕ) → i ≤ j → j < n → s i ≤ s j
      ascend i j l m = from (le_or_lt j i)
        where
          from : (j ≤ i) ⊎ (i < j) → s i ≤ s j
          from (inl z) = let q : j ≡ i = omega arith in rw q (omega arith)
          from (inr z) = omega (arith, starts_from 0 d 0 n w i (omega arith) (omega arith), ascending 0 d 0 n w i j (omega arith) z (omega arith))

      last : Last s p n (found s p n)
      last = found_last s p n ascend h

      go : (s 0 ≤ p) ⊎ (p < s 0) → charge (range s e v (found s p n)) p ≡ at (ranges s e v 0 n) p
      go (inl z) = sym (at_last p 0 d 0 n w (found s p n) (omega arith) (omega (arith, last.among)) (last.reached z) (λ j a y. last.later j a (omega arith)))
      go (inr z) =
          charge_before (range s e v (found s p n)) p (omega (arith, ascend 0 (found s p n) (omega arith) last.among))
          ∙ sym (beyond p 0 n (λ j l m. omega (arith, ascend 0 j l (omega arith))))

module _ {P : Type 0} (w : Width P) where
  -- the pieces at the places that count
  abbrev pub pieces : Merged P → ℕ → List Range
  pieces c n = ranges (keys w c.start) (keys w c.end) (λ i. get_or c.value i (pos 0)) 0 (places c n)

  -- what is charged by the piece at the place found, of m places that count
  module _ (c : Merged P) (n p : ℕ) {m : ℕ} (e : m ≡ places c n) where
    pub price_none : m ≡ 0 → None ≡ price_at w c n p
    unfolding price_at
    price_none z = let q : places c n ≡ 0 = omega arith in rw q

    pub price_found : {i : ℕ} {x : Option ℤ} → 0 < m → i ≡ found (keys w c.start) p m → x ≡ charge (piece w c i) p → x ≡ price_at w c n p
    unfolding price_at
    price_found h f q = rw (← e, lt-ltb 0 m h, ← f) q

  -- only the places that count matter
  pub price_same : (c : Merged P) (n p : ℕ) {m : ℕ} {x : Option ℤ} → m ≡ places c n → x ≡ price_at w c m p → x ≡ price_at w c n p
  unfolding price_at
  price_same c n p {m} e f = let q : places c m ≡ places c n = omega arith in f ∙ rw q

  pub price_is_at : (c : Merged P) (n p d : ℕ) → Within 0 d (pieces c n) → price_at w c n p ≡ at (pieces c n) p
  price_is_at c n p d a = go (le_or_lt (places c n) 0)
    where
      go : (places c n ≤ 0) ⊎ (0 < places c n) → price_at w c n p ≡ at (pieces c n) p
      go (inl z) = let q : places c n ≡ 0 = omega arith in sym (price_none c n p refl q) ∙ rw q
      go (inr z) = sym (price_found c n p refl z refl refl) ∙ reads _ _ _ p d (places c n) a z

pub front_at : {R A : Type 0} (f : R → A) (rs : List R) (l : List A) (i : ℕ) (d : A) (r : R) → i < length rs → get_or (map f rs ++ l) i d ≡ f (get_or rs i r)
front_at f [] l i d r h = absurd (omega arith)
front_at f (x ∷ xs) l zero d r h = refl
front_at f (x ∷ xs) l (suc i) d r h = front_at f xs l i d r (omega arith)

front_long : {R A : Type 0} (f : R → A) (rs : List R) (l : List A) → length rs ≤ length (map f rs ++ l)
front_long f rs l = simp (length-append, length-map) (omega arith)

within_at : {A : Type 0} (b d : ℕ) (xs : List (Piece A)) → Within b d xs → (i : ℕ) (r : Piece A) → i < length xs → ((get_or xs i r).start ≤ (get_or xs i r).end) × ((get_or xs i r).end < d)
within_at b d [] w i r h = absurd (omega arith)
within_at b d (x ∷ xs) w zero r h = (w.1, omega (arith, within_le (x.end + 1) d xs w.2))
within_at b d (x ∷ xs) w (suc i) r h = within_at (x.end + 1) d xs w.2 i r (omega arith)

ranges_are : {A : Type 0} (s e : ℕ → ℕ) (v : ℕ → A) (r : Piece A) (xs : List (Piece A)) (i : ℕ) → ((j : ℕ) → j < length xs → range s e v (i + j) ≡ get_or xs j r) → ranges s e v i (length xs) ≡ xs
ranges_are s e v r [] i h = refl
ranges_are s e v r (x ∷ xs) i h =
    let q : range s e v i ≡ x = ap (range s e v) (omega arith) ∙ h 0 (omega arith) in
    let rest = ranges_are s e v r xs (suc i) (λ j l. ap (range s e v) (omega arith) ∙ h (suc j) (omega arith)) in
    cc

module _ {P : Type 0} {Fits : P → Type 0} {w : Width P} (f : Faithful w Fits) where
  laid_piece : (c : Merged P) (xs : List Range) → Within 0 w.points xs → (r : Range) (i : ℕ) → i < length xs → piece w (lay w 0 xs c) i ≡ get_or xs i r
  laid_piece c xs a r i h =
      let b = within_at 0 w.points xs a i r h in
      let s = ap w.key (front_at (λ x. w.point x.start) xs (drop (0 + length xs) c.start) i (w.point 0) r h) ∙ f.key_point _ (omega arith) in
      let e = ap w.key (front_at (λ x. w.point x.end) xs (drop (0 + length xs) c.end) i (w.point 0) r h) ∙ f.key_point _ b.1 in
      let v = front_at (λ x. x.value) xs (drop (0 + length xs) c.value) i (pos 0) r h in
      λ j. record { start = s j; end = e j; value = v j }

  laid_places : (c : Merged P) (xs : List Range) → places (lay w 0 xs c) (length xs) ≡ length xs
  laid_places c xs =
      omega (
        arith,
        front_long (λ x. w.point x.start) xs (drop (0 + length xs) c.start),
        front_long (λ x. w.point x.end) xs (drop (0 + length xs) c.end),
        front_long (λ x. x.value) xs (drop (0 + length xs) c.value),
      )

  laid_pieces : (c : Merged P) (xs : List Range) → Within 0 w.points xs → pieces w (lay w 0 xs c) (length xs) ≡ xs
  laid_pieces c xs a =
      let r : Range = record { start = 0; end = 0; value = pos 0 } in
      rw (laid_places c xs) (ranges_are _ _ _ r xs 0 (λ j h. ap (piece w (lay w 0 xs c)) (omega arith) ∙ laid_piece c xs a r j h))

  -- ascending pieces at the front of the columns
  pub price_of_laid : (c : Merged P) (xs : List Range) → Within 0 w.points xs → (p : ℕ) → price_at w (lay w 0 xs c) (length xs) p ≡ at xs p
  price_of_laid c xs a p = let q = laid_pieces c xs a in price_is_at w (lay w 0 xs c) (length xs) p w.points (rw q a) ∙ ap (λ ys. at ys p) q
