-- A sweep that takes the earlier of the first start and the first end answers events in order. Assumes nothing.
use Prim.Native.Nat.{ℕ, zero, suc, ◌+◌, ◌≤◌, ◌<◌}
use mathlib.Core.Path.{◌≡◌, refl, sym, ap, ◌∙◌}
use mathlib.Core.Logic.{◌≢◌}
use Rattle.std.specs.declared.option.Option.{Option}
use Rattle.std.specs.declared.option.Option.TheVariants.{None, Some}
use mathlib.Core.List.{List, [], ◌∷◌}
use native.Mathlib.Omega.{arith}
use lib.ListN.{length, get_or, set}
use Rattle.rules.specs.Piece.{Piece, Within, AllWellFormed}
use Rattle.rules.specs.Sweep.{Event, starts, ends, own, sort, events}
use Rattle.multiway_sweep.specs.Lanes.{flat, owns, Lane, Lanes, Ahead}
use Rattle.multiway_sweep.specs.Cursors.{Cursor, fresh, begun, lane, lanes, left, fresh_all, Past, AllPast, StartNext, EndNext}
use Rattle.rules.proofs.Sweep.{all_map, own_from}
use Rattle.multiway_sweep.proofs.Lanes.{lanes_next, lanes_first, own_lane}

module _ {A : Type 0} where
  begun_lane : (k n : ℕ) (o : Option ℕ) (xs : List (Piece A)) → Past n o xs → Lane k (begun k o (own k xs))
  begun_lane k n None xs w = own_lane k 0 n xs w
  begun_lane k n (Some p) xs w = (refl, all_map (λ e h. omega arith) (own k xs) (own_from k (p + 1) n xs w), own_lane k (p + 1) n xs w)

  past_lanes : (k n : ℕ) (cs : List (Cursor A)) → AllPast n cs → Lanes k (lanes k cs)
  past_lanes k n [] w = tt
  past_lanes k n (c ∷ cs) w = (begun_lane k n c.active c.ranges w.0, past_lanes (suc k) n cs w.1)

  pub past_at : (n j : ℕ) (cs : List (Cursor A)) → AllPast n cs → j < length cs → Past n (get_or cs j (fresh [])).active (get_or cs j (fresh [])).ranges
  past_at n j [] w h = absurd (omega arith)
  past_at n zero (c ∷ cs) w h = w.0
  past_at n (suc j) (c ∷ cs) w h = past_at n j cs w.1 (omega arith)

  lanes_length : (k : ℕ) (cs : List (Cursor A)) → length (lanes k cs) ≡ length cs
  lanes_length k [] = refl
  lanes_length k (c ∷ cs) = ap suc (lanes_length (suc k) cs)

  lanes_at : (k i m : ℕ) (cs : List (Cursor A)) → i < length cs → m ≡ k + i → get_or (lanes k cs) i [] ≡ lane m (get_or cs i (fresh []))
  lanes_at k i m [] h q = absurd (omega arith)
  lanes_at k zero m (c ∷ cs) h q = let z : k ≡ m = omega arith in rw z
  lanes_at k (suc i) m (c ∷ cs) h q = lanes_at (suc k) i m cs (omega arith) (omega arith)

  lanes_put : (k i m : ℕ) (c : Cursor A) (cs : List (Cursor A)) → m ≡ k + i → set (lanes k cs) i (lane m c) ≡ lanes k (set cs i c)
  lanes_put k i m c [] q = refl
  lanes_put k zero m c (x ∷ xs) q = let z : m ≡ k = omega arith in rw z
  lanes_put k (suc i) m c (x ∷ xs) q = ap (λ l. lane k x ∷ l) (lanes_put (suc k) i m c xs (omega arith))

  -- the next event is the first of its list, and before the first of every other
  left_next : (n j : ℕ) (e : Event A) (c : Cursor A) (cs : List (Cursor A)) → AllPast n cs → j < length cs → lane j (get_or cs j (fresh [])) ≡ e ∷ lane j c → ((i : ℕ) → i < length cs → i ≢ j → Ahead e (lane i (get_or cs i (fresh [])))) → left cs ≡ e ∷ left (set cs j c)
  unfolding left
  left_next n j e c cs w h g a =
      let m = lanes_length 0 cs in
      lanes_next e (lane j c) j (lanes 0 cs) (past_lanes 0 n cs w) (omega arith) (lanes_at 0 j j cs h (omega arith) ∙ g) (λ i k q. rw (lanes_at 0 i i cs (omega arith) (omega arith)) (a i (omega arith) q))
      ∙ ap (λ z. e ∷ sort (flat z)) (lanes_put 0 j j c cs (omega arith))

  ahead_start : (s i j : ℕ) (v : A) (o : Option ℕ) (ys : List (Piece A)) → i ≢ j → ((q : ℕ) → o ≡ Some q → s ≤ q) → ((x : Piece A) (xs : List (Piece A)) → ys ≡ x ∷ xs → s ≤ x.start) → ((x : Piece A) (xs : List (Piece A)) → ys ≡ x ∷ xs → s ≡ x.start → j ≤ i) → Ahead (starts s j v) (begun i o (own i ys))
  ahead_start s i j v (Some q) ys ne e f g = let h = e q refl in record { no_later = omega arith; tie = λ t. absurd (omega arith) }
  ahead_start s i j v None [] ne e f g = tt
  ahead_start s i j v None (x ∷ xs) ne e f g =
      let h = f x xs refl in
      record { no_later = omega arith; tie = λ t. let k = g x xs refl (omega arith) in omega arith }

  ahead_end : (p i j : ℕ) (o : Option ℕ) (ys : List (Piece A)) → i ≢ j → ((x : Piece A) (xs : List (Piece A)) → ys ≡ x ∷ xs → p < x.start) → ((q : ℕ) → o ≡ Some q → p ≤ q) → ((q : ℕ) → o ≡ Some q → p ≡ q → j ≤ i) → Ahead (ends p j) (begun i o (own i ys))
  ahead_end p i j (Some q) ys ne f e g =
      let h = e q refl in
      record { no_later = omega arith; tie = λ t. let k = g q refl (omega arith) in omega arith }
  ahead_end p i j None [] ne f e g = tt
  ahead_end p i j None (x ∷ xs) ne f e g = let h = f x xs refl in record { no_later = omega arith; tie = λ t. absurd (omega arith) }

  -- a list whose next range starts by the end of its active range has no active range
  pub not_active : (n : ℕ) (o : Option ℕ) (x : Piece A) (xs : List (Piece A)) → Past n o (x ∷ xs) → ((q : ℕ) → o ≡ Some q → x.start ≤ q) → o ≡ None
  not_active n None x xs w e = refl
  not_active n (Some q) x xs w e = absurd (omega (arith, e q refl))

  module _ (n j : ℕ) (cs : List (Cursor A)) (w : AllPast n cs) (h : j < length cs) where
    pub next_start : (x : Piece A) (xs : List (Piece A)) → (get_or cs j (fresh [])).ranges ≡ x ∷ xs → StartNext x.start j cs → left cs ≡ starts x.start j x.value ∷ left (set cs j (record { active = Some x.end; ranges = xs }))
    next_start x xs q s =
        left_next n j _ (record { active = Some x.end; ranges = xs }) cs w h (ap (λ o. begun j o (own j (get_or cs j (fresh [])).ranges)) idle ∙ ap (own j) q)
        (λ i k ne. ahead_start x.start i j x.value (get_or cs i (fresh [])).active (get_or cs i (fresh [])).ranges ne (λ r. s.ends_later i r k) (λ y ys. s.starts_later i y ys k) (λ y ys. s.lower i y ys k))
      where
        idle : (get_or cs j (fresh [])).active ≡ None
        idle = not_active n (get_or cs j (fresh [])).active x xs (rw q at (past_at n j cs w h)) (λ r. s.ends_later j r h)

    pub next_end : (p : ℕ) (xs : List (Piece A)) → (get_or cs j (fresh [])).active ≡ Some p → (get_or cs j (fresh [])).ranges ≡ xs → EndNext p j cs → left cs ≡ ends p j ∷ left (set cs j (fresh xs))
    next_end p xs q r s =
        left_next n j _ (fresh xs) cs w h (ap (λ o. begun j o (own j (get_or cs j (fresh [])).ranges)) q ∙ ap (λ z. ends p j ∷ own j z) r)
        (λ i k ne. ahead_end p i j (get_or cs i (fresh [])).active (get_or cs i (fresh [])).ranges ne (λ y ys. s.starts_later i y ys k) (λ t. s.ends_later i t k) (λ t. s.lower i t k))

  -- at first every list is whole, and all events are left
  fresh_past : (n : ℕ) (ls : List (List (Piece A))) → AllWellFormed n ls → AllPast n (fresh_all ls)
  fresh_past n [] w = tt
  fresh_past n (l ∷ ls) w = (w.0, fresh_past n ls w.1)

  fresh_lanes : (k : ℕ) (ls : List (List (Piece A))) → lanes k (fresh_all ls) ≡ owns k ls
  fresh_lanes k [] = refl
  fresh_lanes k (l ∷ ls) = ap (λ z. own k l ∷ z) (fresh_lanes (suc k) ls)

  pub left_first : (n : ℕ) (ls : List (List (Piece A))) → AllWellFormed n ls → AllPast n (fresh_all ls) × (left (fresh_all ls) ≡ events ls)
  unfolding left
  left_first n ls w = (fresh_past n ls w, ap (λ z. sort (flat z)) (fresh_lanes 0 ls) ∙ sym (lanes_first n ls w).1)

  -- a start and an end keep them so
  past_set : (n j : ℕ) (c : Cursor A) (cs : List (Cursor A)) → AllPast n cs → Past n c.active c.ranges → AllPast n (set cs j c)
  past_set n j c [] w p = tt
  past_set n zero c (x ∷ xs) w p = (p, w.1)
  past_set n (suc j) c (x ∷ xs) w p = (w.0, past_set n j c xs w.1 p)

  past_whole : (n : ℕ) (o : Option ℕ) (xs : List (Piece A)) → Past n o xs → Within 0 n xs
  past_whole n None xs w = w
  past_whole n (Some p) [] w = omega arith
  past_whole n (Some p) (x ∷ xs) w = (omega arith, w.1, w.2)

  module _ (n j : ℕ) (cs : List (Cursor A)) (w : AllPast n cs) (h : j < length cs) where
    pub past_start : (x : Piece A) (xs : List (Piece A)) → (get_or cs j (fresh [])).ranges ≡ x ∷ xs → AllPast n (set cs j (record { active = Some x.end; ranges = xs }))
    past_start x xs q =
        let p = past_whole n (get_or cs j (fresh [])).active (x ∷ xs) (rw q at (past_at n j cs w h)) in
        past_set n j (record { active = Some x.end; ranges = xs }) cs w p.2

    pub past_end : (xs : List (Piece A)) → (get_or cs j (fresh [])).ranges ≡ xs → AllPast n (set cs j (fresh xs))
    past_end xs q = past_set n j (fresh xs) cs w (past_whole n (get_or cs j (fresh [])).active xs (rw q at (past_at n j cs w h)))

  lanes_done : (k : ℕ) (cs : List (Cursor A)) → ((i : ℕ) → i < length cs → get_or cs i (fresh []) ≡ fresh []) → flat (lanes k cs) ≡ []
  lanes_done k [] a = refl
  lanes_done k (c ∷ cs) a = rw (a 0 (omega arith)) (lanes_done (suc k) cs (λ i h. a (suc i) (omega arith)))

  pub left_done : (cs : List (Cursor A)) → ((i : ℕ) → i < length cs → get_or cs i (fresh []) ≡ fresh []) → left cs ≡ []
  unfolding left
  left_done cs a = ap sort (lanes_done 0 cs a)
