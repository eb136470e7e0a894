-- Lists read from columns: what each list has, place by place, and columns read from a place on. Assumes nothing.
use Prim.Native.Nat.{ℕ, zero, suc, ◌+◌, ◌-◌, ◌≤◌, ◌<◌}
use mathlib.Core.Path.{◌≡◌, refl, ap, ◌∙◌}
use mathlib.Core.List.{List, [], ◌∷◌}
use native.Mathlib.Omega.{arith}
use native.Mathlib.Numerals.{add-one}
use lib.IntN.{pos}
use lib.ListN.{length, get_or, take, drop}
use lib.Seq.{drop-cons}
use Rattle.rules.specs.Lists.{Width, Lent, keys, range, ranges, cut, total, lists, tracks}
use Rattle.rules.specs.Piece.{Piece, Range}
use Rattle.rules.specs.Proving.Below.{size}

module _ {A : Type 0} (s e : ℕ → ℕ) (v : ℕ → A) where
  -- one more range before the stop
  pub ranges_more : (i stop : ℕ) → i < stop → ranges s e v i (stop - i) ≡ range s e v i ∷ ranges s e v (i + 1) (stop - (i + 1))
  ranges_more i stop h = let q : stop - i ≡ suc (stop - (i + 1)) = omega arith in rw (q, add-one)

  pub ranges_done : (i stop : ℕ) → stop ≤ i → ranges s e v i (stop - i) ≡ []
  ranges_done i stop h = let q : stop - i ≡ 0 = omega arith in rw q

  -- one more list
  pub cut_more : (i k : ℕ) (ns : List ℕ) → k < length ns → cut s e v i (drop k ns) ≡ ranges s e v i (get_or ns k 0) ∷ cut s e v (i + get_or ns k 0) (drop (k + 1) ns)
  cut_more i k ns h = rw (drop-cons ns k 0 h, add-one)

  pub length_ranges : (i n : ℕ) → length (ranges s e v i n) ≡ n
  length_ranges i zero = refl
  length_ranges i (suc n) = ap suc (length_ranges (suc i) n)

  -- lists that lie end to end: how many they are, and how many ranges they have
  pub cut_length : (i : ℕ) (ns : List ℕ) → length (cut s e v i ns) ≡ length ns
  cut_length i [] = refl
  cut_length i (n ∷ ns) = ap suc (cut_length (i + n) ns)

  cut_size : (i : ℕ) (ns : List ℕ) → size (cut s e v i ns) ≡ total ns
  cut_size i [] = refl
  cut_size i (n ∷ ns) = omega (arith, length_ranges i n, cut_size (i + n) ns)

  ranges_at : (i n j : ℕ) (d : Piece A) → j < n → get_or (ranges s e v i n) j d ≡ range s e v (i + j)
  ranges_at i zero j d h = absurd (omega arith)
  ranges_at i (suc n) zero d h = ap (range s e v) (omega arith)
  ranges_at i (suc n) (suc j) d h = ranges_at (suc i) n j d (omega arith) ∙ ap (range s e v) (omega arith)

  cut_at : (i : ℕ) (ns : List ℕ) (k : ℕ) → k < length ns → get_or (cut s e v i ns) k [] ≡ ranges s e v (i + total (take k ns)) (get_or ns k 0)
  cut_at i [] k h = absurd (omega arith)
  cut_at i (n ∷ ns) zero h = ap (λ j. ranges s e v j n) (omega arith)
  cut_at i (n ∷ ns) (suc k) h = cut_at (i + n) ns k (omega arith) ∙ ap (λ j. ranges s e v j (get_or ns k 0)) (omega arith)

  list_long : (ns : List ℕ) (k : ℕ) → k < length ns → length (get_or (cut s e v 0 ns) k []) ≡ get_or ns k 0
  list_long ns k h = ap length (cut_at 0 ns k h) ∙ length_ranges (0 + total (take k ns)) (get_or ns k 0)

  list_at : (ns : List ℕ) (k j : ℕ) (d : Piece A) → k < length ns → j < get_or ns k 0 → get_or (get_or (cut s e v 0 ns) k []) j d ≡ range s e v (total (take k ns) + j)
  list_at ns k j d h m = ap (λ xs. get_or xs j d) (cut_at 0 ns k h) ∙ ranges_at (0 + total (take k ns)) (get_or ns k 0) j d m ∙ ap (range s e v) (omega arith)

module _ {P : Type 0} (w : Width P) (l : Lent P) where
  pub lists_length : length (lists w l) ≡ length l.counts
  lists_length = cut_length (keys w l.starts) (keys w l.ends) (λ i. get_or l.values i (pos 0)) 0 l.counts

  pub lists_size : size (lists w l) ≡ total l.counts
  lists_size = cut_size (keys w l.starts) (keys w l.ends) (λ i. get_or l.values i (pos 0)) 0 l.counts

  -- list k has as many ranges as its count says; its range j stands in the columns after the ranges of the lists before it and its own before j
  module _ (k : ℕ) (h : k < length l.counts) where
    pub lists_long : length (get_or (lists w l) k []) ≡ get_or l.counts k 0
    lists_long = list_long _ _ _ l.counts k h

    pub tracks_long : length (get_or (tracks w l) k []) ≡ get_or l.counts k 0
    tracks_long = list_long _ _ _ l.counts k h

    module _ (j : ℕ) (m : j < get_or l.counts k 0) where
      abbrev place : ℕ
      place = total (take k l.counts) + j

      pub lists_at : (d : Range) → get_or (get_or (lists w l) k []) j d ≡ record { start = w.key (get_or l.starts place (w.point 0)); end = w.key (get_or l.ends place (w.point 0)); value = get_or l.values place (pos 0) }
      lists_at d = list_at (keys w l.starts) (keys w l.ends) (λ i. get_or l.values i (pos 0)) l.counts k j d h m

      pub tracks_at : (d : Piece ℕ) → get_or (get_or (tracks w l) k []) j d ≡ record { start = w.key (get_or l.starts place (w.point 0)); end = w.key (get_or l.ends place (w.point 0)); value = place }
      tracks_at d = list_at (keys w l.starts) (keys w l.ends) (λ i. i) l.counts k j d h m

pub total_more : (ns : List ℕ) (k : ℕ) → k < length ns → total (drop k ns) ≡ get_or ns k 0 + total (drop (k + 1) ns)
total_more ns k h = rw (drop-cons ns k 0 h, add-one)
