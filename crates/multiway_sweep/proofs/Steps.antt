-- The steps of a sweep. Assumes nothing.
use Prim.Native.Nat.{ℕ, ◌+◌, ◌<◌, ◌≤◌}
use mathlib.Core.Path.{◌≡◌, refl, sym, ap, ◌∙◌}
use mathlib.Core.Logic.{◌⊎◌, inl, inr, ⊎_elim}
use mathlib.Core.Bool.{true, false}
use mathlib.Core.List.{List, [], ◌∷◌}
use native.Mathlib.Omega.{arith}
use Rattle.std.specs.declared.option.Option.{Option}
use Rattle.std.specs.declared.option.Option.TheVariants.{None, Some}
use lib.IntN.{ℤ, pos}
use lib.ListN.{length, get_or, set, length-set}
use lib.Seq.{get_or-set_same, get_or-set_other}
use Rattle.heap.specs.Heap.{rank}
use Rattle.heap.specs.Moved.{top, Top, Pushed, Popped, Topped}
use Rattle.heap.specs.declared.Entry.{Entry}
use Rattle.heap.specs.declared.Heap.{Heap}
use Rattle.heap.proofs.Laws.{by_eq, rank_one}
use Rattle.rules.specs.Lists.{Width, keys}
use Rattle.rules.specs.Sweep as rules
use Rattle.multiway_sweep.specs.Stands.{Stands, Start}
use Rattle.multiway_sweep.specs.Steps.{Reading, EndFirst, course, next_at, stop_at, view, Sweeping, Stepped, TakesNext, Due}
use Rattle.multiway_sweep.specs.declared.Course.{Course}
use Rattle.multiway_sweep.specs.declared.Event.TheVariants.{Start as Starts, End}
use Rattle.multiway_sweep.specs.declared.Sweep.{Sweep}
use Rattle.multiway_sweep.proofs.Stands.{all_done, ended, start_due, started_more, started_last}

module _ {P : Type 0} {w : Width P} {c : Reading P} {s : Sweep} {rest : List (rules.Event ℤ)} (g : Sweeping w c s rest) where
  pub nothing_left : Top s.starts None → Top s.active_ends None → rest ≡ []
  nothing_left = all_done g.stands

  -- the end on top of its heap goes
  pub end_taken : (next : Option Entry) {end : Entry} {r : Heap} → Top s.starts next → Top s.active_ends (Some end) → EndFirst next (Some end) true → Popped s.active_ends r → Stepped w c s (record { courses = s.courses; starts = s.starts; active_ends = r }) rest (Some (End end.key end.list))
  end_taken next {end} {r} t u e pop = go next t e
    where
      went : (skey j : ℕ) → top s.starts ≡ rank skey j → (s.starts.len ≡ 0) ⊎ (end.key < skey) → Stepped w c s (record { courses = s.courses; starts = s.starts; active_ends = r }) rest (Some (End end.key end.list))
      went skey j least d =
          let x = ended g.stands skey j end.key end.list least u.2 u.1 u.0 d pop in
          (tt, (x.0, x.1, record { starts_long = g.starts_long; ends_long = g.ends_long; courses_long = g.courses_long; stands = x.2 }))

      go : (next : Option Entry) → Top s.starts next → EndFirst next (Some end) true → Stepped w c s (record { courses = s.courses; starts = s.starts; active_ends = r }) rest (Some (End end.key end.list))
      go None z e = went _ _ refl (inl z)
      go (Some start) t e = went start.key start.list t.2 (inr (e.yes refl))

  -- the start on top of its heap is next where no end is, or none is before it
  due : (start : Entry) → Top s.starts (Some start) → (s.active_ends.len ≡ 0) ⊎ ((end : Entry) × Top s.active_ends (Some end) × (start.key ≤ end.key)) → Due w c s start
  due start first early = record {
    first = first;
    early = early;
    there = go early;
    starts_long = g.starts_long;
    ends_long = g.ends_long;
    courses_long = g.courses_long;
  }
    where
      go : (s.active_ends.len ≡ 0) ⊎ ((end : Entry) × Top s.active_ends (Some end) × (start.key ≤ end.key)) → Start (keys w c.starts) start.key start.list (length c.values) (view s)
      go (inl z) = start_due g.stands start.key start.list _ _ first.2 refl first.1 first.0 (inl z)
      go (inr x) = start_due g.stands start.key start.list x.0.key x.0.list first.2 x.1.2 first.1 first.0 (inr x.2)

  pub due_alone : {start : Entry} → Top s.starts (Some start) → Top s.active_ends None → Due w c s start
  due_alone first z = due _ first (inl z)

  pub due_before : (next : Option Entry) (start end : Entry) → Top s.starts next → Top s.starts (Some start) → Top s.active_ends (Some end) → EndFirst next (Some end) false → Due w c s start
  due_before None start end u first t e = absurd (e.no refl)
  due_before (Some n) start end u first t e = let q = (rank_one u.1 first.1 (sym u.2 ∙ first.2)).0 in due _ first (inr (end, t, omega (arith, q, e.no refl)))

-- where no start is left, each end comes before it
pub no_start : (s : Sweep) (end : Entry) (next : Option Entry) → Top s.starts next → Top s.starts None → EndFirst next (Some end) false → ⊥
no_start s end None t z e = e.no refl
no_start s end (Some n) t z e = omega (arith, t.0)

-- a start that is next
module _ {P : Type 0} {w : Width P} {c : Reading P} {s : Sweep} {start : Entry} (d : Due w c s start) where
  abbrev j : ℕ
  j = start.list

  abbrev place : ℕ
  place = next_at s.courses j

  abbrev onward : List Course
  onward = set s.courses j (record { next = place + 1; stop = stop_at s.courses j })

  own : course onward j ≡ record { next = place + 1; stop = stop_at s.courses j }
  own = get_or-set_same s.courses j _ _ (omega (arith, d.courses_long, d.there.few))

  other : (i : ℕ) → (i ≡ j → ⊥) → course onward i ≡ course s.courses i
  other i ne = get_or-set_other s.courses j i _ _ ne

  stays : (i : ℕ) → stop_at onward i ≡ stop_at s.courses i
  stays i = by_eq i j (λ q. ap (stop_at onward) q ∙ ap (λ x. x.stop) own ∙ ap (stop_at s.courses) (sym q)) (λ ne. ap (λ x. x.stop) (other i ne))

  -- where the list has another range, that has a start
  pub another_there : place + 1 < stop_at onward j → place + 1 < length c.starts
  another_there l = omega (arith, l, stays j, d.there.within, d.starts_long)

  -- with what was read of its range
  module _ {end : ℕ} {value : ℤ} (e : end ≡ keys w c.ends place) (v : value ≡ get_or c.values place (pos 0)) (q r : Heap) (push : Pushed s.active_ends q (rank end j)) where
    abbrev after : Sweep
    after = record { courses = onward; starts = r; active_ends = q }

    abbrev Taken : Type 0
    Taken = TakesNext w c s after (Some (Starts (record { start = start.key; end = end }) j value))

    pushed : Pushed s.active_ends q (rank (keys w c.ends place) j)
    pushed = rw e at push

    module _ (rest : List (rules.Event ℤ)) (g : Sweeping w c s rest) where
      taken : ((rest' : List (rules.Event ℤ)) × (rest ≡ rules.starts start.key j (get_or c.values place (pos 0)) ∷ rest') × Stands w.points (keys w c.starts) (keys w c.ends) (λ i. get_or c.values i (pos 0)) (length c.values) (view after) rest') → Stepped w c s after rest (Some (Starts (record { start = start.key; end = end }) j value))
      taken x = (e, (x.0, x.1 ∙ ap (λ y. rules.starts start.key j y ∷ x.0) (sym v), record { starts_long = g.starts_long; ends_long = g.ends_long; courses_long = length-set s.courses j _ ∙ g.courses_long; stands = x.2 }))

      more : (ekey k : ℕ) → top s.active_ends ≡ rank ekey k → (s.active_ends.len ≡ 0) ⊎ (start.key ≤ ekey) → {new : ℕ} → new ≡ keys w c.starts (place + 1) → place + 1 < stop_at onward j → Topped s.starts r (rank new j) → Stepped w c s after rest (Some (Starts (record { start = start.key; end = end }) j value))
      more ekey k peak f n l t = taken (started_more g.stands start.key j ekey k d.first.2 peak d.first.1 d.first.0 f (next_at onward) (stop_at onward) (ap (λ x. x.next) own) (λ i ne. ap (λ x. x.next) (other i ne)) stays pushed (omega (arith, l, stays j)) (rw n at t))

      last : (ekey k : ℕ) → top s.active_ends ≡ rank ekey k → (s.active_ends.len ≡ 0) ⊎ (start.key ≤ ekey) → stop_at onward j ≤ place + 1 → Popped s.starts r → Stepped w c s after rest (Some (Starts (record { start = start.key; end = end }) j value))
      last ekey k peak f l t = taken (started_last g.stands start.key j ekey k d.first.2 peak d.first.1 d.first.0 f (next_at onward) (stop_at onward) (ap (λ x. x.next) own) (λ i ne. ap (λ x. x.next) (other i ne)) stays pushed (omega (arith, l, stays j)) t)

    pub start_taken_more : {new : ℕ} → new ≡ keys w c.starts (place + 1) → place + 1 < stop_at onward j → Topped s.starts r (rank new j) → Taken
    start_taken_more n l t rest g = ⊎_elim (λ z. more rest g _ _ refl (inl z) n l t) (λ x. more rest g x.0.key x.0.list x.1.2 (inr x.2) n l t) d.early

    pub start_taken_last : stop_at onward j ≤ place + 1 → Popped s.starts r → Taken
    start_taken_last l t rest g = ⊎_elim (λ z. last rest g _ _ refl (inl z) l t) (λ x. last rest g x.0.key x.0.list x.1.2 (inr x.2) l t) d.early
