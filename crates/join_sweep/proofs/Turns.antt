-- What a join keeps as it takes the held event, and as it lets time go on. Assumes nothing.
use Prim.Native.Nat.{ℕ, ◌+◌, ◌*◌, ◌-◌, ◌≤◌, ◌<◌}
use mathlib.Core.Path.{◌≡◌, refl, sym, ap, ◌∙◌, subst}
use mathlib.Core.Logic.{⊎_elim}
use mathlib.Core.Bool.{Bool, true, false}
use Rattle.std.specs.declared.option.Option.{Option}
use Rattle.std.specs.declared.option.Option.TheVariants.{None, Some}
use Rattle.std.specs.Borrow.{MutBor}
use mathlib.Core.List.{List, ◌∷◌}
use native.Mathlib.Omega.{arith}
use lib.IntN.{ℤ}
use lib.ListN.{length, set, length-set}
use Rattle.rules.specs.Piece.{Range, present}
use Rattle.rules.specs.Lists.{Width}
use Rattle.rules.specs.Sweep as rules
use Rattle.rules.specs.Proving.Moments.{moment}
use Rattle.multiway_sweep.specs.Front.{apply, Front, Next as Due}
use Rattle.multiway_sweep.specs.Steps.{whole, Reading, On, Took, Holds, Underway, TakesNext}
use Rattle.multiway_sweep.specs.declared.Range.{Range as Span}
use Rattle.multiway_sweep.specs.declared.Event.{Event}
use Rattle.multiway_sweep.specs.declared.Event.TheVariants.{Start, End}
use Rattle.multiway_sweep.specs.declared.SweepMut.{SweepMut}
use Rattle.multiway_sweep.proofs.Front.{front_take, front_move, front_list, front_starts, front_ends}
use Rattle.slots.specs.Slots.{active, slots_of}
use Rattle.join_sweep.specs.Stretches.{after, moment_of, StartsAt, EndsAt, EndsWith, StartsWith, Busy, places, Joining, Opened}
use Rattle.join_sweep.specs.declared.JoinSweepMut.{JoinSweepMut}
use Rattle.slots.proofs.Slots.{active_length, absent_set, present_set, count_upto, count_more, count_less}

-- what is held happens at u or later
abbrev pub Later : ℕ → Option Event → Type 0
Later u = On (λ e. u ≤ moment e) (Unit {0})

module _ {P : Type 0} {w : Width P} {c : Reading P} {ls : List (List Range)} {j : JoinSweepMut} {t : ℕ} (g : Joining w c ls j t) where
  later_left : (u : ℕ) → Later u j.state.held → Due u g.left
  later_left u = go j.state.held g.holds
    where
      go : (r : Option Event) → Holds w c (whole j.sweep) r g.left → Later u r → Due u g.left
      go (Some (Start y list v)) e l = rw e.1 l
      go (Some (End at list)) e l = rw e.1 l
      go None e l = rw e tt

  -- time goes on, up to the held event
  pub moved : (u : ℕ) → t ≤ u → Later u j.state.held → Joining w c ls j u
  moved u k l =
      record {
        formed = g.formed;
        current_long = g.current_long;
        present_long = g.present_long;
        counted = g.counted;
        left = g.left;
        front = front_move w.points ls g.formed g.front u k (later_left u l);
        holds = g.holds;
      }

  -- a stretch ends
  pub ended_at : (last : Option ℕ) → Joining w c ls (record { sweep = j.sweep; state = record { held = j.state.held; active_count = j.state.active_count; last_end = last }; current = j.current; present = j.present }) t
  ended_at last = record { formed = g.formed; current_long = g.current_long; present_long = g.present_long; counted = g.counted; left = g.left; front = g.front; holds = g.holds }

  -- the event x is held
  module _ {x : rules.Event ℤ} (holding : Took w c (whole j.sweep) x g.left) where
    front_held : Front ls t (x ∷ holding.0) (active (length ls) (places j))
    front_held = rw holding.1 at g.front

    -- the sweep stands past it
    past : Underway w c (whole j.sweep)
    past = (holding.0, holding.2)

    due : t ≤ moment x
    due = front_held.high.0

    list_few : rules.list x < 16
    list_few = omega (arith, front_list w.points ls g.formed front_held, g.counted.few)

    -- it is taken, and the next one is held
    module _ {b : SweepMut} {r : Option Event} (st : TakesNext w c (whole j.sweep) (whole b) r) (e : moment x ≡ t) where
      taken : (u : MutBor (List ℤ)) (v : MutBor (List Bool)) (n : ℕ) (last : Option ℕ) → length u.now ≡ 16 → length v.now ≡ 16 → active (length ls) (slots_of u.now v.now) ≡ apply x (active (length ls) (places j)) → n ≡ length (present (apply x (active (length ls) (places j)))) → Joining w c ls (record { sweep = b; state = record { held = r; active_count = n; last_end = last }; current = u; present = v }) t
      taken u v n last cl pl q k =
          record {
            formed = g.formed;
            current_long = cl;
            present_long = pl;
            counted = record { few = g.counted.few; count = rw q k };
            left = holding.0;
            front = rw q (subst (λ m. Front ls m holding.0 (apply x (active (length ls) (places j)))) e (front_take w.points ls g.formed front_held));
            holds = (st _ holding.2).1;
          }

  -- a range ends: its list has nothing from there on
  module _ {at list : ℕ} (h : j.state.held ≡ Some (End at list)) where
    end_held : Took w c (whole j.sweep) (rules.ends at list) g.left
    end_held = rw h at g.holds

    fewer : j.state.active_count ≡ length (present (set (active (length ls) (places j)) list None)) + 1
    fewer = let f = front_ends w.points ls g.formed (front_held end_held) in g.counted.count ∙ count_less (active (length ls) (places j)) list f.0 f.1

    end_past : Underway w c (whole j.sweep)
    end_past = past end_held

    end_due : t ≤ 2 * at + 1
    end_due = due end_held

    end_list : list < 16
    end_list = list_few end_held

    some_active : 0 < j.state.active_count
    some_active = omega (arith, fewer)

    ended : {v : MutBor (List Bool)} → v.now ≡ set j.present.now list false → {b : SweepMut} {r : Option Event} → TakesNext w c (whole j.sweep) (whole b) r → t ≡ 2 * at + 1 → Joining w c ls (record { sweep = b; state = record { held = r; active_count = j.state.active_count - 1; last_end = j.state.last_end }; current = j.current; present = v }) t
    ended q st e =
        taken end_held st (sym e) _ _ _ _ g.current_long (ap length q ∙ length-set j.present.now list false ∙ g.present_long)
        (rw q (absent_set (places j) (length ls) list (omega (arith, end_list, g.present_long)))) (omega (arith, fewer))

  -- a range starts: its list has its value from there on
  module _ {y : Span} {list : ℕ} {v : ℤ} (h : j.state.held ≡ Some (Start y list v)) where
    start_held : Took w c (whole j.sweep) (rules.starts y.start list v) g.left
    start_held = rw h at g.holds

    more : j.state.active_count + 1 ≡ length (present (set (active (length ls) (places j)) list (Some v)))
    more =
        let l = front_list w.points ls g.formed (front_held start_held) in
        let m = active_length (length ls) (places j) in
        omega (arith, g.counted.count, count_more (active (length ls) (places j)) list v (omega arith) (front_starts w.points ls g.formed (front_held start_held)))

    start_past : Underway w c (whole j.sweep)
    start_past = past start_held

    start_due : t ≤ 2 * y.start
    start_due = omega (arith, due start_held)

    -- its list is one of sixteen, which are not all active
    start_few : (list < 16) × (j.state.active_count < 16)
    start_few = (list_few start_held, omega (arith, more, g.counted.few, count_upto (set (active (length ls) (places j)) list (Some v)), length-set (active (length ls) (places j)) list (Some v), active_length (length ls) (places j)))

    started : {u : MutBor (List ℤ)} {a : MutBor (List Bool)} → u.now ≡ set j.current.now list v → a.now ≡ set j.present.now list true → {b : SweepMut} {r : Option Event} → TakesNext w c (whole j.sweep) (whole b) r → t ≡ 2 * y.start → Joining w c ls (record { sweep = b; state = record { held = r; active_count = j.state.active_count + 1; last_end = j.state.last_end }; current = u; present = a }) t
    started k q st e =
        taken start_held st (omega arith) _ _ _ _ (ap length k ∙ length-set j.current.now list v ∙ g.current_long) (ap length q ∙ length-set j.present.now list true ∙ g.present_long)
        (rw (k, q) (present_set (places j) (length ls) list (omega (arith, start_few, g.present_long)) v (omega (arith, start_few, g.current_long)))) more

-- the held event is looked at: one of the ends of the last stretch, or else they are all taken
module _ {P : Type 0} {w : Width P} {c : Reading P} {ls : List (List Range)} {j : JoinSweepMut} (g : Joining w c ls j (moment_of j.state.last_end)) {look : Option ℕ} (e : EndsWith j.state.held j.state.last_end look) where
  pub closed : look ≡ None → Joining w c ls j (2 * after j.state.last_end)
  closed q = go j.state.last_end refl
    where
      n : EndsAt j.state.last_end j.state.held → ⊥
      n = rw q at e

      later : (e : ℕ) → j.state.last_end ≡ Some e → (r : Option Event) → j.state.held ≡ r → Later (2 * (e + 1)) r
      later e k (Some (Start y list v)) h = omega (arith, ap moment_of k, start_due g h)
      later e k (Some (End at list)) h =
          let d : at ≡ e → ⊥ = λ q. n (rw h (k ∙ ap Some (sym q))) in
          omega (arith, ap moment_of k, d, end_due g h)
      later e k None h = tt

      go : (l : Option ℕ) → j.state.last_end ≡ l → Joining w c ls j (2 * after l)
      go None k = subst (λ m. Joining w c ls j (moment_of m)) k g
      go (Some e) k = moved g (2 * (e + 1)) (omega (arith, ap moment_of k)) (later e k j.state.held refl)

  module _ {list : ℕ} (q : look ≡ Some list) where
    ends : EndsWith j.state.held j.state.last_end (Some list)
    ends = rw q at e

    -- its list is one of sixteen, and something is active
    pub ended_few : (list < 16) × (0 < j.state.active_count)
    ended_few = (end_list g ends.2, some_active g ends.2)

    pub ended_past : Underway w c (whole j.sweep)
    ended_past = end_past g ends.2

    pub ended_on : {v : MutBor (List Bool)} → v.now ≡ set j.present.now list false → {b : SweepMut} {r : Option Event} → TakesNext w c (whole j.sweep) (whole b) r → Joining w c ls (record { sweep = b; state = record { held = r; active_count = j.state.active_count - 1; last_end = j.state.last_end }; current = j.current; present = v }) (moment_of j.state.last_end)
    ended_on k st = ended g ends.2 k st (ap moment_of ends.1)

-- the held event is looked at: one of the starts at a point, or else they are all taken
module _ {P : Type 0} {w : Width P} {c : Reading P} {ls : List (List Range)} {j : JoinSweepMut} (start : ℕ) (g : Joining w c ls j (2 * start)) {look : Option (ℕ × ℤ)} (e : StartsWith j.state.held start look) where
  pub opened : Busy start j.state → look ≡ None → Opened w c ls j start
  opened busy q = record { joining = g; taken = later_left g (2 * start + 1) (later j.state.held refl); busy = ⊎_elim (λ k. k) (λ k. absurd (n k)) busy }
    where
      n : StartsAt start j.state.held → ⊥
      n = rw q at e

      later : (r : Option Event) → j.state.held ≡ r → Later (2 * start + 1) r
      later (Some (Start y list v)) h = let d : start ≡ y.start → ⊥ = λ q. n (rw h q) in omega (arith, d, start_due g h)
      later (Some (End at list)) h = omega (arith, end_due g h)
      later None h = tt

  module _ {list : ℕ} {v : ℤ} (q : look ≡ Some (list, v)) where
    begins : StartsWith j.state.held start (Some (list, v))
    begins = rw q at e

    -- its list is one of sixteen, which are not all active
    pub started_few : (list < 16) × (j.state.active_count < 16)
    started_few = start_few g begins.2

    pub started_past : Underway w c (whole j.sweep)
    started_past = start_past g begins.2

    pub started_on : {u : MutBor (List ℤ)} {a : MutBor (List Bool)} → u.now ≡ set j.current.now list v → a.now ≡ set j.present.now list true → {b : SweepMut} {r : Option Event} → TakesNext w c (whole j.sweep) (whole b) r → Joining w c ls (record { sweep = b; state = record { held = r; active_count = j.state.active_count + 1; last_end = j.state.last_end }; current = u; present = a }) (2 * start)
    started_on k i st = started g begins.2 k i st (omega (arith, begins.1))
