-- The first event left is the one that is before the first of every other list. Assumes nothing.
use Prim.Native.Nat.{ℕ, zero, suc, ◌+◌, ◌<◌}
use mathlib.Core.Path.{◌≡◌, refl, sym, ap, ◌∙◌}
use mathlib.Core.Logic.{◌≢◌}
use mathlib.Core.Bool.{Bool, true, false}
use mathlib.Core.List.{List, [], ◌∷◌, ◌++◌, append_assoc}
use native.Mathlib.Omega.{arith}
use lib.ListN.{length, get_or, set}
use Rattle.rules.specs.Piece.{Piece, Within, AllWellFormed}
use Rattle.rules.specs.Sweep.{Event, list, before, put, sort, own, listed, events, All}
use Rattle.rules.specs.Proving.Moments.{moment, Before}
use Rattle.multiway_sweep.specs.Lanes.{flat, owns, Lane, Lanes, Ahead, Leads}
use Rattle.rules.proofs.Sweep.{before_true, before_false, clash, all_map, all_append, all_sort, own_from}

module _ {A : Type 0} where
  before_yes : (e x : Event A) → Before e x → before e x ≡ true
  before_yes e x b = go (before e x) refl
    where
      apart : list e ≡ list x → moment e < moment x
      apart q = let ne : moment e ≢ moment x = λ r. omega (arith, b.tie r) in omega (arith, b.no_later)

      go : (t : Bool) → before e x ≡ t → before e x ≡ true
      go true q = q
      go false q = absurd (clash e x b (before_false e x q apart))

  before_no : (e x : Event A) → Before e x → before x e ≡ false
  before_no e x b = go (before x e) refl
    where
      go : (t : Bool) → before x e ≡ t → before x e ≡ false
      go true q = absurd (clash e x b (before_true x e q))
      go false q = q

  put_first : (e : Event A) (es : List (Event A)) → All (Before e) es → put e es ≡ e ∷ es
  put_first e [] a = refl
  put_first e (x ∷ xs) a = rw (before_yes e x a.0)

  -- an event before all others comes out first
  pub sort_first : (e : Event A) (es fs : List (Event A)) → All (Before e) (es ++ fs) → sort (es ++ (e ∷ fs)) ≡ e ∷ sort (es ++ fs)
  sort_first e [] fs a = put_first e (sort fs) (all_sort (Before e) fs a)
  sort_first e (x ∷ xs) fs a = ap (put x) (sort_first e xs fs a.1) ∙ (rw (before_no e x a.0))

  lane_after : (e : Event A) (k : ℕ) (r : List (Event A)) → Lane k r → Ahead e r → All (Before e) r
  lane_after e k [] l h = tt
  lane_after e k (x ∷ xs) l h = (h, all_map (λ y m. let g = h.no_later in record { no_later = omega arith; tie = λ q. omega arith }) xs l.1)

  lanes_after : (e : Event A) (j i : ℕ) (rs : List (List (Event A))) → j < i → Lanes i rs → Leads e j i rs → All (Before e) (flat rs)
  lanes_after e j i [] h l a = tt
  lanes_after e j i (r ∷ rs) h l a = all_append (Before e) r (flat rs) (lane_after e i r l.0 (a.0 (λ q. omega arith))) (lanes_after e j (suc i) rs (omega arith) l.1 a.1)

  lane_tail : (e : Event A) (k : ℕ) (r : List (Event A)) → Lane k (e ∷ r) → All (Before e) r
  lane_tail e k r l = all_map (λ y m. record { no_later = omega arith; tie = λ q. omega arith }) r l.1

  -- a lane's first event among all that is left, and what is left without it
  record Split (e : Event A) (r : List (Event A)) (m : ℕ) (rs : List (List (Event A))) : Type 0 where
    pre : List (Event A)
    post : List (Event A)
    with_it : flat rs ≡ pre ++ (e ∷ post)
    without : flat (set rs m r) ≡ pre ++ post
    least : All (Before e) (pre ++ post)

  split_past : (e : Event A) (r x : List (Event A)) (m : ℕ) (xs : List (List (Event A))) → All (Before e) x → Split e r m xs → Split e r (suc m) (x ∷ xs)
  split_past e r x m xs a s =
      record {
        pre = x ++ s.pre;
        post = s.post;
        with_it = ap (λ z. x ++ z) s.with_it ∙ sym (append_assoc x s.pre (e ∷ s.post));
        without = ap (λ z. x ++ z) s.without ∙ sym (append_assoc x s.pre s.post);
        least = rw (append_assoc x s.pre s.post) (all_append (Before e) x (s.pre ++ s.post) a s.least);
      }

  split : (e : Event A) (r : List (Event A)) (i m j : ℕ) (rs : List (List (Event A))) → Lanes i rs → j ≡ i + m → m < length rs → get_or rs m [] ≡ e ∷ r → Leads e j i rs → Split e r m rs
  split e r i m j [] l q h g a = absurd (omega arith)
  split e r i zero j (x ∷ xs) l q h g a =
      let mine : Lane i (e ∷ r) = rw g at l.0 in
      record {
        pre = [];
        post = r ++ flat xs;
        with_it = ap (λ z. z ++ flat xs) g;
        without = refl;
        least = all_append (Before e) r (flat xs) (lane_tail e i r mine) (lanes_after e j (suc i) xs (omega arith) l.1 a.1);
      }
  split e r i (suc m) j (x ∷ xs) l q h g a = split_past e r x m xs (lane_after e i x l.0 (a.0 (λ p. omega arith))) (split e r (suc i) m j xs l.1 (omega arith) (omega arith) g a.1)

  leads : (e : Event A) (j i : ℕ) (rs : List (List (Event A))) → ((m : ℕ) → m < length rs → i + m ≢ j → Ahead e (get_or rs m [])) → Leads e j i rs
  leads e j i [] a = tt
  leads e j i (r ∷ rs) a = ((λ q. a 0 (omega arith) (λ z. q (omega arith))), leads e j (suc i) rs (λ m h q. a (suc m) (omega arith) (λ z. q (omega arith))))

  -- the event before the first of every other list is the next of all
  pub lanes_next : (e : Event A) (r : List (Event A)) (j : ℕ) (rs : List (List (Event A))) → Lanes 0 rs → j < length rs → get_or rs j [] ≡ e ∷ r → ((i : ℕ) → i < length rs → i ≢ j → Ahead e (get_or rs i [])) → sort (flat rs) ≡ e ∷ sort (flat (set rs j r))
  lanes_next e r j rs l h g a =
      let s = split e r 0 j j rs l (omega arith) h g (leads e j 0 rs (λ m k q. a m k (λ z. q (omega arith)))) in
      ap sort s.with_it ∙ sort_first e s.pre s.post s.least ∙ ap (λ z. e ∷ sort z) (sym s.without)

  pub own_lane : (k b n : ℕ) (l : List (Piece A)) → Within b n l → Lane k (own k l)
  own_lane k b n [] w = tt
  own_lane k b n (x ∷ xs) w =
      let rest = own_from k (x.end + 1) n xs w.2 in
      (refl, (omega arith, all_map (λ e h. omega arith) (own k xs) rest), (refl, all_map (λ e h. omega arith) (own k xs) rest, own_lane k (x.end + 1) n xs w.2))

  owns_lanes : (k n : ℕ) (ls : List (List (Piece A))) → AllWellFormed n ls → Lanes k (owns k ls)
  owns_lanes k n [] w = tt
  owns_lanes k n (l ∷ ls) w = (own_lane k 0 n l w.0, owns_lanes (suc k) n ls w.1)

  listed_flat : (k : ℕ) (ls : List (List (Piece A))) → listed k ls ≡ flat (owns k ls)
  listed_flat k [] = refl
  listed_flat k (l ∷ ls) = ap (λ z. own k l ++ z) (listed_flat (suc k) ls)

  -- at first all events of every list are left
  pub lanes_first : (n : ℕ) (ls : List (List (Piece A))) → AllWellFormed n ls → Lanes 0 (owns 0 ls) × (events ls ≡ sort (flat (owns 0 ls)))
  unfolding events
  lanes_first n ls w = (owns_lanes 0 n ls w, ap sort (listed_flat 0 ls))
