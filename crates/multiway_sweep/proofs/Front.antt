-- What the lists have once events have passed is their column, up to the next event. Assumes nothing.
use Prim.Native.Nat.{ℕ, zero, suc, ◌+◌, ◌*◌, ◌≤◌, ◌<◌}
use mathlib.Core.Path.{◌≡◌, refl, sym, ap, ◌∙◌}
use mathlib.Core.Logic.{◌⊎◌, inl, inr, ◌≢◌}
use mathlib.Core.Bool.{Bool, true, false, cond, ◌&&◌}
use Rattle.std.specs.declared.option.Option.{Option}
use Rattle.std.specs.declared.option.Option.TheVariants.{None, Some}
use mathlib.Core.List.{List, [], ◌∷◌, ◌++◌, append_assoc}
use native.Mathlib.Omega.{arith}
use lib.Dec.{ltb, eqb}
use lib.ListN.{length, get_or, length-set, length-map, get_or-map}
use lib.Seq.{get_or-set_same, get_or-set_other, ext_get_or}
use borrow.Author.Tests.{lt-ltb, le-ltb, eq-eqb, eqb-true, eqb-false}
use Rattle.rules.specs.Piece.{Piece, at, Within, AllWellFormed}
use Rattle.rules.specs.Piece.{column}
use Rattle.rules.specs.Proving.Below.{nones}
use Rattle.rules.specs.Sweep.{Event, starts, ends, point, list, put, sort, own, listed, events, All, In}
use Rattle.rules.specs.Proving.Moments.{moment, Before, Sorted}
use Rattle.multiway_sweep.specs.Front.{value_from, apply, run, Front, Next}
use Rattle.rules.proofs.At.{at_in, at_before, at_after, at_late, le_or_lt}
use Rattle.rules.proofs.Sweep.{Later, InTurn, put_cases, all_map, all_append, all_right, all_in, all_sort, sorted_right, sort_in, own_list, own_from, own_point, listed_list, listed_in_turn, events_sorted}

module _ {A : Type 0} where
  module _ (j t : ℕ) where
    -- an event of the list j that happens before t
    abbrev mine : Event A → Bool
    mine e = eqb (list e) j && ltb (moment e) t

    -- what the list j has once the events that happen before t have passed, if it had o
    abbrev pub track : List (Event A) → Option A → Option A
    track [] o = o
    track (e ∷ es) o = track es (cond (mine e) (value_from e) o)

    step_yes : (e : Event A) (o : Option A) → list e ≡ j → moment e < t → cond (mine e) (value_from e) o ≡ value_from e
    step_yes e o q h = rw (eq-eqb (list e) j q, lt-ltb (moment e) t h)

    step_no : (e : Event A) (o : Option A) → (list e ≡ j → t ≤ moment e) → cond (mine e) (value_from e) o ≡ o
    step_no e o h = go (eqb (list e) j) refl
      where
        go : (b : Bool) → eqb (list e) j ≡ b → cond (b && ltb (moment e) t) (value_from e) o ≡ o
        go true q = rw (le-ltb (moment e) t (h (eqb-true _ _ q)))
        go false q = refl

    swap : (e x : Event A) (o : Option A) → list e ≢ list x → cond (mine e) (value_from e) (cond (mine x) (value_from x) o) ≡ cond (mine x) (value_from x) (cond (mine e) (value_from e) o)
    swap e x o ne = go (eqb (list e) j) (eqb (list x) j) refl refl
      where
        go : (a b : Bool) → eqb (list e) j ≡ a → eqb (list x) j ≡ b → cond (a && ltb (moment e) t) (value_from e) (cond (b && ltb (moment x) t) (value_from x) o) ≡ cond (b && ltb (moment x) t) (value_from x) (cond (a && ltb (moment e) t) (value_from e) o)
        go true true p q = absurd (ne (eqb-true _ _ p ∙ sym (eqb-true _ _ q)))
        go true false p q = refl
        go false b p q = refl

    track_skip : (es : List (Event A)) (o : Option A) → All (λ e. list e ≡ j → t ≤ moment e) es → track es o ≡ o
    track_skip [] o a = refl
    track_skip (e ∷ es) o a = ap (track es) (step_no e o a.0) ∙ track_skip es o a.1

    track_append : (es fs : List (Event A)) (o : Option A) → track (es ++ fs) o ≡ track fs (track es o)
    track_append [] fs o = refl
    track_append (e ∷ es) fs o = track_append es fs (cond (mine e) (value_from e) o)

    track_put : (e : Event A) (es : List (Event A)) (o : Option A) → All (Later e) es → track (put e es) o ≡ track (e ∷ es) o
    track_put e [] o a = refl
    track_put e (x ∷ xs) o a =
        put_cases e x xs (λ l. track l o ≡ track (e ∷ x ∷ xs) o) (λ b. refl)
        (λ b. track_put e xs (cond (mine x) (value_from x) o) a.1 ∙ ap (track xs) (swap e x o (λ q. omega (arith, a.0 q, (b a.0).no_later))))

    track_sort : (es : List (Event A)) (o : Option A) → InTurn es → track (sort es) o ≡ track es o
    track_sort [] o i = refl
    track_sort (e ∷ es) o i = track_put e (sort es) o (all_sort (Later e) es i.0) ∙ track_sort es (cond (mine e) (value_from e) o) i.1

    -- the events of other lists do not bear on it
    track_listed : (k i : ℕ) (ls : List (List (Piece A))) → i < length ls → j ≡ k + i → track (listed k ls) None ≡ track (own j (get_or ls i [])) None
    track_listed k i [] h q = absurd (omega arith)
    track_listed k zero (l ∷ ls) h q =
        let s : k ≡ j = omega arith in
        track_append (own k l) (listed (suc k) ls) None
        ∙ track_skip (listed (suc k) ls) (track (own k l) None) (all_map (λ e g r. absurd (omega arith)) (listed (suc k) ls) (listed_list (suc k) ls))
        ∙ (rw s)
    track_listed k (suc i) (l ∷ ls) h q =
        track_append (own k l) (listed (suc k) ls) None
        ∙ ap (track (listed (suc k) ls)) (track_skip (own k l) None (all_map (λ e g r. absurd (omega arith)) (own k l) (own_list k l)))
        ∙ track_listed (suc k) i ls (omega arith) (omega arith)

    track_run : (es : List (Event A)) (act : List (Option A)) → j < length act → All (λ e. list e ≡ j → moment e < t) es → get_or (run es act) j None ≡ track es (get_or act j None)
    track_run [] act h a = refl
    track_run (e ∷ es) act h a = track_run es (apply e act) (rw (length-set act (list e) (value_from e)) h) a.1 ∙ ap (track es) (go (eqb (list e) j) refl)
      where
        go : (b : Bool) → eqb (list e) j ≡ b → get_or (apply e act) j None ≡ cond (b && ltb (moment e) t) (value_from e) (get_or act j None)
        go true q = let s : list e ≡ j = eqb-true _ _ q in rw (lt-ltb (moment e) t (a.0 s), s, get_or-set_same act j (value_from e) None h)
        go false q = get_or-set_other act (list e) j (value_from e) None (λ r. eqb-false _ _ q (sym r))

  -- the events of a range: before t, both, the start alone, or neither have happened
  module _ (k t : ℕ) (x : Piece A) (xs : List (Piece A)) where
    own_both : 2 * x.end + 1 < t → (o : Option A) → track k t (own k (x ∷ xs)) o ≡ track k t (own k xs) None
    own_both h o = ap (track k t (own k xs)) (step_yes k t (ends x.end k) _ refl h)

    own_start : 2 * x.start + 0 < t → t ≤ 2 * x.end + 1 → (o : Option A) → track k t (own k (x ∷ xs)) o ≡ track k t (own k xs) (Some x.value)
    own_start h l o = ap (track k t (own k xs)) (step_no k t (ends x.end k) _ (λ q. l) ∙ step_yes k t (starts x.start k x.value) o refl h)

  own_late : (k t b n : ℕ) (l : List (Piece A)) (o : Option A) → Within b n l → t ≤ 2 * b → track k t (own k l) o ≡ o
  own_late k t b n l o w h = track_skip k t (own k l) o (all_map (λ e g q. omega arith) (own k l) (own_from k b n l w))

  -- after the starts of a point, and before its ends, a list has what it has at the point
  own_at : (k c b n : ℕ) (l : List (Piece A)) → Within b n l → track k (2 * c + 1) (own k l) None ≡ at l c
  own_at k c b n [] w = refl
  own_at k c b n (x ∷ xs) w = go (own_at k c (x.end + 1) n xs w.2) (le_or_lt x.start c) (le_or_lt c x.end)
    where
      go : track k (2 * c + 1) (own k xs) None ≡ at xs c → (x.start ≤ c) ⊎ (c < x.start) → (c ≤ x.end) ⊎ (x.end < c) → track k (2 * c + 1) (own k (x ∷ xs)) None ≡ at (x ∷ xs) c
      go rest (inr h) m =
          let w' : Within x.start n (x ∷ xs) = (omega arith, w.1, w.2) in
          own_late k (2 * c + 1) x.start n (x ∷ xs) None w' (omega arith) ∙ sym (own_late k (2 * c + 1) (x.end + 1) n xs None w.2 (omega arith)) ∙ rest ∙ sym (at_before x xs c h)
      go rest (inl h) (inl m) = own_start k (2 * c + 1) x xs (omega arith) (omega arith) None ∙ own_late k (2 * c + 1) (x.end + 1) n xs _ w.2 (omega arith) ∙ sym (at_in x xs c h m)
      go rest (inl h) (inr m) = own_both k (2 * c + 1) x xs (omega arith) None ∙ rest ∙ sym (at_after x xs c m)

  -- a range's end finds its list with a value, and a start finds it without
  own_ends : (k p b n : ℕ) (l : List (Piece A)) → Within b n l → In (ends p k) (own k l) → (v : A) × (track k (2 * p + 1) (own k l) None ≡ Some v)
  own_ends k p b n [] w x'' = elim x'' [ ]
  own_ends k p b n (x ∷ xs) w (inl q) = let z : ◌≡◌ {A = ℕ} 0 1 = cc in absurd (omega arith)
  own_ends k p b n (x ∷ xs) w (inr (inl q)) =
      let s : p ≡ x.end = cc in
      (x.value, own_start k (2 * p + 1) x xs (omega arith) (omega arith) None ∙ own_late k (2 * p + 1) (x.end + 1) n xs _ w.2 (omega arith))
  own_ends k p b n (x ∷ xs) w (inr (inr i)) =
      let r = own_ends k p (x.end + 1) n xs w.2 i in
      let h = all_in (λ e. 2 * (x.end + 1) ≤ moment e) (ends p k) (own k xs) (own_from k (x.end + 1) n xs w.2) i in
      (r.0, own_both k (2 * p + 1) x xs (omega arith) None ∙ r.1)

  own_starts : (k p b n : ℕ) (v : A) (l : List (Piece A)) → Within b n l → In (starts p k v) (own k l) → track k (2 * p) (own k l) None ≡ None
  own_starts k p b n v [] w x'' = elim x'' [ ]
  own_starts k p b n v (x ∷ xs) w (inl q) =
      let s : p ≡ x.start = cc in
      let w' : Within x.start n (x ∷ xs) = (omega arith, w.1, w.2) in
      own_late k (2 * p) x.start n (x ∷ xs) None w' (omega arith)
  own_starts k p b n v (x ∷ xs) w (inr (inl q)) = let z : ◌≡◌ {A = ℕ} 0 1 = cc in absurd (omega arith)
  own_starts k p b n v (x ∷ xs) w (inr (inr i)) =
      let h = all_in (λ e. 2 * (x.end + 1) ≤ moment e) (starts p k v) (own k xs) (own_from k (x.end + 1) n xs w.2) i in
      own_both k (2 * p) x xs (omega arith) None ∙ own_starts k p (x.end + 1) n v xs w.2 i

  run_append : (es fs : List (Event A)) (act : List (Option A)) → run (es ++ fs) act ≡ run fs (run es act)
  run_append [] fs act = refl
  run_append (e ∷ es) fs act = run_append es fs (apply e act)

  run_length : (es : List (Event A)) (act : List (Option A)) → length (run es act) ≡ length act
  run_length [] act = refl
  run_length (e ∷ es) act = run_length es (apply e act) ∙ length-set act (list e) (value_from e)

  all_any : (P : Event A → Type 0) → ((e : Event A) → P e) → (es : List (Event A)) → All P es
  all_any P g [] = tt
  all_any P g (e ∷ es) = (g e, all_any P g es)

  sorted_left : (es : List (Event A)) (e : Event A) (fs : List (Event A)) → Sorted (es ++ (e ∷ fs)) → All (λ x. Before x e) es
  sorted_left [] e fs s = tt
  sorted_left (x ∷ xs) e fs s = ((all_right (Before x) xs (e ∷ fs) s.0).0, sorted_left xs e fs s.1)

  from_next : (u : ℕ) (left : List (Event A)) → Sorted left → Next u left → All (λ e. u ≤ moment e) left
  from_next u [] s h = tt
  from_next u (e ∷ es) s h = (h, all_map (λ x b. omega arith) es s.0)

  in_append : (e : Event A) (es fs : List (Event A)) → In e (es ++ fs) → In e es ⊎ In e fs
  in_append e [] fs i = inr i
  in_append e (x ∷ xs) fs (inl q) = inl (inl q)
  in_append e (x ∷ xs) fs (inr i) = go (in_append e xs fs i)
    where
      go : In e xs ⊎ In e fs → In e (x ∷ xs) ⊎ In e fs
      go (inl j) = inl (inr j)
      go (inr j) = inr j

  in_middle : (e : Event A) (es fs : List (Event A)) → In e (es ++ (e ∷ fs))
  in_middle e [] fs = inl refl
  in_middle e (x ∷ xs) fs = inr (in_middle e xs fs)

  -- an event is of one of the lists
  listed_in : (e : Event A) (k : ℕ) (ls : List (List (Piece A))) → In e (listed k ls) → (i : ℕ) × (list e ≡ k + i) × (i < length ls) × In e (own (list e) (get_or ls i []))
  listed_in e k [] m = elim m [ ]
  listed_in e k (l ∷ ls) m = go (λ j. listed_in e (suc k) ls j) (in_append e (own k l) (listed (suc k) ls) m)
    where
      go : (In e (listed (suc k) ls) → (i : ℕ) × (list e ≡ suc k + i) × (i < length ls) × In e (own (list e) (get_or ls i []))) → In e (own k l) ⊎ In e (listed (suc k) ls) → (i : ℕ) × (list e ≡ k + i) × (i < length (l ∷ ls)) × In e (own (list e) (get_or (l ∷ ls) i []))
      go rest (inl j) = let q = all_in (λ x. list x ≡ k) e (own k l) (own_list k l) j in (0, omega arith, omega arith, rw q j)
      go rest (inr j) = let r = rest j in (suc r.0, omega arith, omega arith, r.3)

  wf_at : (n j : ℕ) (ls : List (List (Piece A))) → AllWellFormed n ls → Within 0 n (get_or ls j [])
  wf_at n j [] w = omega arith
  wf_at n zero (l ∷ ls) w = w.0
  wf_at n (suc j) (l ∷ ls) w = wf_at n j ls w.1

  column_late : (n p : ℕ) (ls : List (List (Piece A))) → AllWellFormed n ls → n ≤ p → column ls p ≡ nones ls
  column_late n p [] w h = refl
  column_late n p (l ∷ ls) w h = λ i. at_late 0 n l w.0 p h i ∷ column_late n p ls w.1 h i

  module _ (n : ℕ) (ls : List (List (Piece A))) (wf : AllWellFormed n ls) where
    pub front_first : Front ls 0 (events ls) (nones ls)
    front_first = record { passed = []; whole = refl; state = refl; low = tt; high = all_any (λ e. 0 ≤ moment e) (λ e. omega arith) (events ls) }

    module _ {t : ℕ} {left : List (Event A)} {act : List (Option A)} (f : Front ls t left act) where
      pub front_length : length act ≡ length ls
      front_length = ap length f.state ∙ run_length f.passed (nones ls) ∙ length-map ls (λ l. None)

      front_whole : Sorted (f.passed ++ left)
      front_whole = rw f.whole (events_sorted n ls wf)

      pub front_sorted : Sorted left
      front_sorted = sorted_right f.passed left front_whole

      -- time goes on, up to the next event
      pub front_move : (u : ℕ) → t ≤ u → Next u left → Front ls u left act
      front_move u h k = record { passed = f.passed; whole = f.whole; state = f.state; low = all_map (λ e g. omega arith) f.passed f.low; high = from_next u left front_sorted k }

      -- what one list has, where none of its events lies between those passed and u or between u and those left
      front_entry : (j u : ℕ) → j < length ls → All (λ e. list e ≡ j → moment e < u) f.passed → All (λ e. list e ≡ j → u ≤ moment e) left → get_or act j None ≡ track j u (own j (get_or ls j [])) None
      unfolding events
      front_entry j u h a b =
          let m : length (nones ls) ≡ length ls = length-map ls (λ l. None) in
          ap (λ z. get_or z j None) f.state
          ∙ track_run j u f.passed (nones ls) (omega arith) a
          ∙ ap (track j u f.passed) (get_or-map (λ l. None) ls j [])
          ∙ sym (track_skip j u left (track j u f.passed None) b)
          ∙ sym (track_append j u f.passed left None)
          ∙ ap (λ z. track j u z None) f.whole
          ∙ track_sort j u (listed 0 ls) None (listed_in_turn 0 n ls wf)
          ∙ track_listed j u 0 j ls h (omega arith)

      -- up to the next event the lists have what has passed
      pub front_column : (p : ℕ) → t ≤ 2 * p → Next (2 * p + 1) left → column ls p ≡ act
      front_column p h k = ext_get_or None (column ls p) act (length-map ls (λ l. at l p) ∙ sym front_length) (λ j g. go j (omega (arith, length-map ls (λ l. at l p))))
        where
          go : (j : ℕ) → j < length ls → get_or (column ls p) j None ≡ get_or act j None
          go j g =
              get_or-map (λ l. at l p) ls j []
              ∙ sym (own_at j p 0 n (get_or ls j []) (wf_at n j ls wf))
              ∙ sym (front_entry j (2 * p + 1) g (all_map (λ e m q. omega arith) f.passed f.low) (all_map (λ e m q. m) left (from_next (2 * p + 1) left front_sorted k)))

    -- once all events have passed no list has anything
    pub front_last : {t : ℕ} {act : List (Option A)} → Front ls t [] act → act ≡ nones ls
    front_last {t} f = sym (front_column f (t + n) (omega arith) tt) ∙ column_late n (t + n) ls wf (omega arith)

    module _ {t : ℕ} {left : List (Event A)} {act : List (Option A)} {e : Event A} (f : Front ls t (e ∷ left) act) where
      -- an event passes
      pub front_take : Front ls (moment e) left (apply e act)
      front_take =
          let h = f.high.0 in
          record {
            passed = f.passed ++ (e ∷ []);
            whole = append_assoc f.passed (e ∷ []) left ∙ f.whole;
            state = ap (apply e) f.state ∙ sym (run_append f.passed (e ∷ []) (nones ls));
            low = all_append (λ x. moment x ≤ moment e) f.passed (e ∷ []) (all_map (λ x g. omega arith) f.passed f.low) (omega arith);
            high = all_map (λ x b. b.no_later) left (front_sorted f).0;
          }

      front_in : In e (listed 0 ls)
      unfolding events
      front_in = sort_in e (listed 0 ls) (rw f.whole at (in_middle e f.passed left))

      pub front_list : list e < length ls
      front_list = let m = listed_in e 0 ls front_in in omega arith

      front_own : In e (own (list e) (get_or ls (list e) []))
      front_own = let m = listed_in e 0 ls front_in in let q : m.0 ≡ list e = omega arith in rw q at m.3

      -- it is at a point of the line
      pub front_point : point e < n
      front_point = all_in (λ x. point x < n) e (own (list e) (get_or ls (list e) [])) (own_point (list e) 0 n (get_or ls (list e) []) (wf_at n (list e) ls wf)) front_own

      -- what the event's list has just before it
      front_prior : get_or act (list e) None ≡ track (list e) (moment e) (own (list e) (get_or ls (list e) [])) None
      front_prior =
          front_entry f (list e) (moment e) front_list
          (all_map prior f.passed (sorted_left f.passed e left (front_whole f)))
          ((λ q. omega arith), all_map (λ x b q. b.no_later) left (front_sorted f).0)
        where
          prior : (x : Event A) → Before x e → list x ≡ list e → moment x < moment e
          prior x b q = let ne : moment x ≢ moment e = λ r. omega (arith, b.tie r) in omega (arith, b.no_later)

    -- a start finds its list with nothing, an end finds it with a value
    pub front_starts : {t p i : ℕ} {v : A} {left : List (Event A)} {act : List (Option A)} → Front ls t (starts p i v ∷ left) act → get_or act i None ≡ None
    front_starts {p = p} {i = i} {v = v} f = let z : 2 * p + 0 ≡ 2 * p = omega arith in front_prior f ∙ (rw z (own_starts i p 0 n v (get_or ls i []) (wf_at n i ls wf) (front_own f)))

    pub front_ends : {t p i : ℕ} {left : List (Event A)} {act : List (Option A)} → Front ls t (ends p i ∷ left) act → (v : A) × (get_or act i None ≡ Some v)
    front_ends {p = p} {i = i} f = let r = own_ends i p 0 n (get_or ls i []) (wf_at n i ls wf) (front_own f) in (r.0, front_prior f ∙ r.1)
