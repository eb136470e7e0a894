-- A sweep takes the end on top of one heap or the start on top of the other: that is the next event, and the rest is left. Assumes nothing.
use Prim.Native.Nat.{ℕ, zero, suc, ◌+◌, ◌-◌, ◌<◌, ◌≤◌}
use mathlib.Core.Path.{◌≡◌, refl, sym, ap, ◌∙◌}
use mathlib.Core.Logic.{◌⊎◌, ⊎_elim}
use Rattle.std.specs.declared.option.Option.{Option}
use Rattle.std.specs.declared.option.Option.TheVariants.{None, Some}
use mathlib.Core.List.{List, [], ◌∷◌}
use native.Mathlib.Omega.{arith}
use lib.ListN.{length, set, length-set, get_or-eq_default}
use lib.Seq.{get_or-set_same, get_or-set_other}
use Rattle.heap.specs.Heap.{rank}
use Rattle.heap.specs.Moved.{top, Pushed, Popped, Topped}
use Rattle.heap.specs.declared.Heap.{Heap}
use Rattle.heap.proofs.Laws.{by_eq}
use Rattle.rules.specs.Piece.{Piece}
use Rattle.rules.specs.Lists.{range, ranges}
use Rattle.rules.specs.Sweep as events
use Rattle.std.proofs.lemmas.Option.{none-some}
use Rattle.rules.proofs.At.{le_or_lt}
use Rattle.rules.proofs.Columns.{ranges_more, ranges_done}
use Rattle.multiway_sweep.specs.Cursors.{Cursor, fresh, left, StartNext, EndNext}
use Rattle.multiway_sweep.specs.Stands.{View, Entered, first_start, at, amount, actives, Stands, Start}
use Rattle.multiway_sweep.proofs.Cursors.{next_start, next_end, past_at, past_start, past_end, not_active, left_done}
use Rattle.multiway_sweep.proofs.Entered.{entered_top, entered_least, entered_none, entered_pushed, entered_popped, entered_topped, entered_same}

amount_few : (o : Option ℕ) → amount o ≤ 1
amount_few None = omega arith
amount_few (Some p) = omega arith

clash : {A : Type 0} {o : Option A} {a : A} → o ≡ None → o ≡ Some a → ⊥
clash {a = a} p q = none-some a (sym p ∙ q)

module _ {A : Type 0} where
  at_same : (cs : List (Cursor A)) (j : ℕ) (c : Cursor A) → j < length cs → at (set cs j c) j ≡ c
  at_same cs j c h = get_or-set_same cs j c (fresh []) h

  at_other : (cs : List (Cursor A)) (j i : ℕ) (c : Cursor A) → (i ≡ j → ⊥) → at (set cs j c) i ≡ at cs i
  at_other cs j i c ne = get_or-set_other cs j i c (fresh []) ne

  -- a list that has something is one of the lists
  listed : {B : Type 0} (f : Cursor A → Option B) (b : B) (cs : List (Cursor A)) (j : ℕ) → f (fresh []) ≡ None → f (at cs j) ≡ Some b → j < length cs
  listed f b cs j z q = ⊎_elim (λ h. absurd (clash (ap f (get_or-eq_default cs (fresh []) h) ∙ z) q)) (λ h. h) (le_or_lt (length cs) j)

  actives_few : (cs : List (Cursor A)) → actives cs ≤ length cs
  actives_few [] = omega arith
  actives_few (c ∷ cs) = omega (arith, amount_few c.active, actives_few cs)

  actives_set : (cs : List (Cursor A)) (j : ℕ) (c : Cursor A) → j < length cs → actives (set cs j c) + amount (at cs j).active ≡ actives cs + amount c.active
  actives_set [] j c h = absurd (omega arith)
  actives_set (x ∷ xs) zero c h = omega arith
  actives_set (x ∷ xs) (suc j) c h = omega (arith, actives_set xs j c (omega arith))

  none_first : (xs : List (Piece A)) → first_start xs ≡ None → xs ≡ []
  none_first [] q = refl
  none_first (y ∷ ys) q = absurd (clash q refl)

-- what lies from a place on starts with the range there
first_lies : {A : Type 0} (s e : ℕ → ℕ) (v : ℕ → A) (a b k : ℕ) → first_start (ranges s e v a (b - a)) ≡ Some k → (a < b) × (k ≡ s a)
first_lies s e v a b k q =
    ⊎_elim
    (λ h. absurd (clash (ap first_start (ranges_done s e v a b h)) q))
    (λ h. (h, let r = ap first_start (ranges_more s e v a b h) in cc))
    (le_or_lt b a)

module _ {A : Type 0} {n : ℕ} {s e : ℕ → ℕ} {v : ℕ → A} {long : ℕ} {x : View} {rest : List (events.Event A)} (st : Stands n s e v long x rest) where
  abbrev cs : List (Cursor A)
  cs = st.cursors

  -- an event is next, and a sweep that stands at the view has the rest
  abbrev Goes : events.Event A → View → Type 0
  Goes a y = (rest' : List (events.Event A)) × (rest ≡ a ∷ rest') × Stands n s e v long y rest'

  few : {i : ℕ} → i < length cs → i < 256
  few h = omega (arith, st.few)

  -- nothing is left where both heaps are empty
  pub all_done : x.starts.len ≡ 0 → x.active_ends.len ≡ 0 → rest ≡ []
  all_done p q = sym st.is_left ∙ left_done cs (λ i h. λ t. record { active = entered_none st.entered_ends q i (few h) t; ranges = none_first (at cs i).ranges (entered_none st.entered_starts p i (few h)) t })

  -- the tops of the two heaps: a start of the list j, and an end of the list k
  module _ (skey j ekey k : ℕ) (least : top x.starts ≡ rank skey j) (peak : top x.active_ends ≡ rank ekey k) where
    starts_from : (i : ℕ) (y : Piece A) (ys : List (Piece A)) → i < length cs → (at cs i).ranges ≡ y ∷ ys → (skey ≤ y.start) × (skey ≡ y.start → j ≤ i)
    starts_from i y ys h q = entered_least st.entered_starts skey j i y.start (few h) least (ap first_start q)

    ends_from : (i q : ℕ) → i < length cs → (at cs i).active ≡ Some q → (ekey ≤ q) × (ekey ≡ q → k ≤ i)
    ends_from i q h a = entered_least st.entered_ends ekey k i q (few h) peak a

    end_next : (x.starts.len ≡ 0) ⊎ (ekey < skey) → EndNext ekey k cs
    end_next d = record {
      starts_later = λ i y ys h q. ⊎_elim (λ z. absurd (clash (entered_none st.entered_starts z i (few h)) (ap first_start q))) (λ l. omega (arith, (starts_from i y ys h q).0)) d;
      ends_later = λ i q h a. (ends_from i q h a).0;
      lower = λ i q h a. (ends_from i q h a).1;
    }

    start_next : (x.active_ends.len ≡ 0) ⊎ (skey ≤ ekey) → StartNext skey j cs
    start_next d = record {
      ends_later = λ i q h a. ⊎_elim (λ z. absurd (clash (entered_none st.entered_ends z i (few h)) a)) (λ l. omega (arith, (ends_from i q h a).0)) d;
      starts_later = λ i y ys h q. (starts_from i y ys h q).0;
      lower = λ i y ys h q. (starts_from i y ys h q).1;
    }

    -- the end on top goes
    pub ended : k < 256 → 0 < x.active_ends.len → (x.starts.len ≡ 0) ⊎ (ekey < skey) → {r : Heap} → Popped x.active_ends r → Goes (events.ends ekey k) (record { next = x.next; stops = x.stops; starts = x.starts; active_ends = r })
    ended kl p d {r} pop = (
      left cs',
      sym st.is_left ∙ next_end n k cs st.past kc ekey (at cs k).ranges active refl (end_next d),
      record {
        cursors = cs';
        few = omega (arith, st.few, long_as);
        past = past_end n k cs st.past kc (at cs k).ranges refl;
        lies = λ i h. ranges_as i ∙ st.lies i (omega (arith, long_as));
        inside = λ i h. st.inside i (omega (arith, long_as));
        entered_starts = entered_same (λ i. ap first_start (ranges_as i)) st.entered_starts;
        entered_ends = entered_popped st.entered_ends k kl (λ i ne. ap (λ c. c.active) (at_other cs k i c' ne)) active (ap (λ c. c.active) (at_same cs k c' kc)) peak pop;
        counted = omega (arith, st.counted, pop.shorter, actives_set cs k c' kc, ap amount active);
        is_left = refl;
      },
    )
      where
        active : (at cs k).active ≡ Some ekey
        active = entered_top st.entered_ends ekey k kl p peak

        kc : k < length cs
        kc = listed (λ c. c.active) ekey cs k refl active

        c' : Cursor A
        c' = fresh (at cs k).ranges

        cs' : List (Cursor A)
        cs' = set cs k c'

        long_as : length cs' ≡ length cs
        long_as = length-set cs k c'

        ranges_as : (i : ℕ) → (at cs' i).ranges ≡ (at cs i).ranges
        ranges_as i = by_eq i k (λ q. ap (λ m. (at cs' m).ranges) q ∙ ap (λ c. c.ranges) (at_same cs k c' kc) ∙ ap (λ m. (at cs m).ranges) (sym q)) (λ ne. ap (λ c. c.ranges) (at_other cs k i c' ne))

    -- the start on top is that of its list's next range
    module _ (jl : j < 256) (p : 0 < x.starts.len) where
      abbrev place : ℕ
      place = x.next j

      first : first_start (at cs j).ranges ≡ Some skey
      first = entered_top st.entered_starts skey j jl p least

      jc : j < length cs
      jc = listed (λ c. first_start c.ranges) skey cs j refl first

      found : (place < x.stops j) × (skey ≡ s place)
      found = first_lies s e v place (x.stops j) skey (ap first_start (sym (st.lies j jc)) ∙ first)

      abbrev after : List (Piece A)
      after = ranges s e v (place + 1) (x.stops j - (place + 1))

      lies_on : (at cs j).ranges ≡ range s e v place ∷ after
      lies_on = st.lies j jc ∙ ranges_more s e v place (x.stops j) found.0

      abbrev c' : Cursor A
      c' = record { active = Some (e place); ranges = after }

      abbrev cs' : List (Cursor A)
      cs' = set cs j c'

      long_as : length cs' ≡ length cs
      long_as = length-set cs j c'

      module _ (d : (x.active_ends.len ≡ 0) ⊎ (skey ≤ ekey)) where
        idle : (at cs j).active ≡ None
        idle = not_active n (at cs j).active (range s e v place) after (rw lies_on at (past_at n j cs st.past jc)) (λ q a. omega (arith, (start_next d).ends_later j q jc a, found.1))

        counts : actives cs' ≡ actives cs + 1
        counts = omega (arith, actives_set cs j c' jc, ap amount idle)

        pub start_due : Start s skey j long x
        start_due = record {
          few = omega (arith, st.few, jc);
          more = found.0;
          within = st.inside j jc;
          is = found.1;
          room = omega (arith, st.few, st.counted, counts, actives_few cs', long_as);
        }

        -- it goes, its range is active, and its list's next range is the one after it
        module _ (next' stops' : ℕ → ℕ) (moved : next' j ≡ place + 1) (kept : (i : ℕ) → (i ≡ j → ⊥) → next' i ≡ x.next i) (stays : (i : ℕ) → stops' i ≡ x.stops i) where
          lies' : (i : ℕ) → i < length cs' → (at cs' i).ranges ≡ ranges s e v (next' i) (stops' i - next' i)
          lies' i h =
              (by_eq i j
              (λ z. ap (λ m. (at cs' m).ranges) z ∙ ap (λ c. c.ranges) (at_same cs j c' jc) ∙ ap (λ m. ranges s e v m (x.stops j - m)) (sym moved) ∙ ap (λ m. ranges s e v (next' m) (x.stops m - next' m)) (sym z))
              (λ ne. ap (λ c. c.ranges) (at_other cs j i c' ne) ∙ st.lies i (omega (arith, long_as)) ∙ ap (λ m. ranges s e v m (x.stops i - m)) (sym (kept i ne))))
              ∙ ap (λ b. ranges s e v (next' i) (b - next' i)) (sym (stays i))

          started : {r q : Heap} → Pushed x.active_ends q (rank (e place) j) → Entered r (λ i. first_start (at cs' i).ranges) → Goes (events.starts skey j (v place)) (record { next = next'; stops = stops'; starts = r; active_ends = q })
          started push g = (
            left cs',
            sym st.is_left ∙ next_start n j cs st.past jc (range s e v place) after lies_on (rw found.1 at (start_next d)) ∙ ap (λ z. events.starts z j (v place) ∷ left cs') (sym found.1),
            record {
              cursors = cs';
              few = omega (arith, st.few, long_as);
              past = past_start n j cs st.past jc (range s e v place) after lies_on;
              lies = lies';
              inside = λ i h. omega (arith, st.inside i (omega (arith, long_as)), stays i);
              entered_starts = g;
              entered_ends = entered_pushed st.entered_ends j jl (λ i ne. ap (λ c. c.active) (at_other cs j i c' ne)) idle (ap (λ c. c.active) (at_same cs j c' jc)) push;
              counted = omega (arith, st.counted, push.longer, counts);
              is_left = refl;
            },
          )

          first_other : (i : ℕ) → (i ≡ j → ⊥) → first_start (at cs' i).ranges ≡ first_start (at cs i).ranges
          first_other i ne = ap (λ c. first_start c.ranges) (at_other cs j i c' ne)

          first_own : first_start (at cs' j).ranges ≡ first_start after
          first_own = ap (λ c. first_start c.ranges) (at_same cs j c' jc)

          pub started_more : {r q : Heap} → Pushed x.active_ends q (rank (e place) j) → place + 1 < x.stops j → Topped x.starts r (rank (s (place + 1)) j) → Goes (events.starts skey j (v place)) (record { next = next'; stops = stops'; starts = r; active_ends = q })
          started_more push l t = started push (entered_topped st.entered_starts j jl first_other first (first_own ∙ ap first_start (ranges_more s e v (place + 1) (x.stops j) l)) least t)

          pub started_last : {r q : Heap} → Pushed x.active_ends q (rank (e place) j) → x.stops j ≤ place + 1 → Popped x.starts r → Goes (events.starts skey j (v place)) (record { next = next'; stops = stops'; starts = r; active_ends = q })
          started_last push l t = started push (entered_popped st.entered_starts j jl first_other first (first_own ∙ ap first_start (ranges_done s e v (place + 1) (x.stops j) l)) least t)
