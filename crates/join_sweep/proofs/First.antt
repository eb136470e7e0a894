-- The first stretch from a point on: the lists have nothing before it, and on it what is active. Assumes nothing.
use Prim.Native.Nat.{ℕ, ◌+◌, ◌*◌, ◌≤◌, ◌<◌}
use mathlib.Core.Path.{◌≡◌, refl, sym, ap, ◌∙◌, subst}
use mathlib.Core.Logic.{inl, inr}
use Rattle.std.specs.declared.option.Option.{Option}
use Rattle.std.specs.declared.option.Option.TheVariants.{None, Some}
use mathlib.Core.List.{List, [], ◌∷◌}
use native.Mathlib.Omega.{arith}
use lib.IntN.{ℤ}
use lib.ListN.{length, get_or, get_or-map}
use Rattle.rules.specs.Piece.{Range, column, present}
use Rattle.rules.specs.Lists.{Width}
use Rattle.rules.specs.Sweep as rules
use Rattle.rules.specs.Proving.Below.{nones}
use Rattle.rules.proofs.Sweep.{kind_small}
use Rattle.multiway_sweep.specs.Front.{edge, Front}
use Rattle.multiway_sweep.specs.Steps.{whole, Reading, NoStart, Took, Holds}
use Rattle.multiway_sweep.specs.declared.Event.{Event}
use Rattle.multiway_sweep.specs.declared.Event.TheVariants.{Start, End}
use Rattle.multiway_sweep.proofs.Front.{front_column, front_last, front_ends, front_point}
use Rattle.slots.specs.Slots.{active}
use Rattle.slots.specs.Stretch.{NoStretch}
use Rattle.join_sweep.specs.Stretches.{after, Busy, StartsAt, Begun, BegunAfter, Ahead, Reached, places, Joining, Opened, Finds}
use Rattle.join_sweep.specs.declared.JoinSweepMut.{JoinSweepMut}
use Rattle.slots.proofs.Slots.{active_length, count_none, nones_count}
use Rattle.join_sweep.proofs.Turns.{Later, moved, ended_at}

-- nothing that ended before k is active
module _ {P : Type 0} {w : Width P} {c : Reading P} {ls : List (List Range)} {j : JoinSweepMut} (k : ℕ) (g : Joining w c ls j (2 * k)) where
  idle : j.state.active_count ≡ 0 → active (length ls) (places j) ≡ nones ls
  idle q = count_none (active (length ls) (places j)) ls (active_length (length ls) (places j)) (omega (arith, g.counted.count))

  idle_end : j.state.active_count ≡ 0 → {at list : ℕ} {rest : List (rules.Event ℤ)} → Front ls (2 * k) (rules.ends at list ∷ rest) (active (length ls) (places j)) → ⊥
  idle_end q {list = list} f =
      let i = idle q in
      let e = front_ends w.points ls g.formed f in
      let m : get_or (nones ls) list None ≡ None = get_or-map (λ l. None) ls list [] in
      let z : ◌≡◌ {A = ℕ} 0 1 = cc in
      omega arith

  nowhere : (j.state.active_count ≡ 0) × NoStart j.state.held → (p : ℕ) → k ≤ p → column ls p ≡ nones ls
  nowhere q p h = go j.state.held q.1 g.holds
    where
      go : (r : Option Event) → NoStart r → Holds w c (whole j.sweep) r g.left → column ls p ≡ nones ls
      go None n e = front_column w.points ls g.formed (rw e at g.front) p (omega arith) tt ∙ idle q.0
      go (Some (Start x list v)) n e = absurd n
      go (Some (End at list)) n e = absurd (idle_end q.0 (rw e.1 at g.front))

  -- a stretch begins at a point
  pub record BeginsAt (start : ℕ) : Type 0 where
    pub joining : Joining w c ls j (2 * start)
    pub busy : Busy start j.state
    pub later : k ≤ start
    pub gap : (p : ℕ) → k ≤ p → p < start → column ls p ≡ nones ls

  begins : (start : ℕ) → Begun j.state k (Some start) → BeginsAt start
  begins start (inl q) = record { joining = subst (λ i. Joining w c ls j (2 * i)) (sym q.1) g; busy = inl q.0; later = omega arith; gap = λ p h l. absurd (omega arith) }
  begins start (inr q) = go j.state.held refl q.1 g.holds
    where
      go : (r : Option Event) → j.state.held ≡ r → StartsAt start r → Holds w c (whole j.sweep) r g.left → BeginsAt start
      go None h n e = absurd n
      go (Some (End at list)) h n e = absurd n
      go (Some (Start x list v)) h n e =
          let f = rw e.1 at g.front in
          let l : k ≤ start = omega (arith, f.high.0) in
          record {
            joining = moved g (2 * start) (omega arith) (rw h (omega arith));
            busy = inr q.1;
            later = l;
            gap = λ p m i. front_column w.points ls g.formed f p (omega arith) (omega arith) ∙ idle q.0;
          }

-- where the stretch after the last one begins, and that there is none
module _ {P : Type 0} {w : Width P} {c : Reading P} {ls : List (List Range)} {j : JoinSweepMut} (greatest : ℕ) (g : Joining w c ls j (2 * after j.state.last_end)) where
  pub begins_at : {start : ℕ} → BegunAfter j.state greatest (Some start) → BeginsAt (after j.state.last_end) g start
  begins_at (inl q) = let z : ◌≡◌ {A = ℕ} 0 1 = cc in absurd (omega arith)
  begins_at (inr b) = begins (after j.state.last_end) g _ b.1

  pub over : BegunAfter j.state greatest None → greatest + 1 ≡ w.points → NoStretch w.points ls (after j.state.last_end)
  over (inl q) n p h l = absurd (omega arith)
  over (inr b) n p h l = nowhere (after j.state.last_end) g b.1 p h

module _ {P : Type 0} {w : Width P} {c : Reading P} {ls : List (List Range)} {j : JoinSweepMut} {start : ℕ} (o : Opened w c ls j start) where
  -- what is active has not ended
  pub ahead : Ahead start j.state.held
  ahead = go j.state.held o.joining.holds
    where
      go : (r : Option Event) → Holds w c (whole j.sweep) r o.joining.left → Ahead start r
      go None e =
          let q = front_last w.points ls o.joining.formed (rw e at o.joining.front) in
          absurd (omega (arith, o.busy, o.joining.counted.count, ap (λ l. length (present l)) q, nones_count ls))
      go (Some (Start y list v)) e = omega (arith, rw e.1 at o.taken)
      go (Some (End at list)) e = omega (arith, rw e.1 at o.taken)

  -- up to the held event
  module _ {k : ℕ} (end : ℕ) (later : k ≤ start) (gap : (p : ℕ) → k ≤ p → p < start → column ls p ≡ nones ls) where
    -- the sweep as the stretch ends
    abbrev ended : JoinSweepMut
    ended = record { sweep = j.sweep; state = record { held = j.state.held; active_count = j.state.active_count; last_end = Some end }; current = j.current; present = j.present }

    abbrev found : Type 0
    found = Finds w c ls k ended (Some (record { start = start; end = end }))

    upto : {x : rules.Event ℤ} → Took w c (whole j.sweep) x o.joining.left → start < edge x → end + 1 ≡ edge x → Later (2 * end + 1) j.state.held → found
    upto {x} e l r m =
        let f = rw e.1 at o.joining.front in
        let n = kind_small x in (
          record {
            later = later;
            order = omega arith;
            below = omega (arith, front_point w.points ls o.joining.formed f);
            gap = gap;
            on = λ p i u. front_column w.points ls o.joining.formed f p (omega arith) (omega arith);
          },
          refl,
          ended_at (moved o.joining (2 * end + 1) (omega arith) m) (Some end),
        )

    pub stretch : Reached j.state.held end → found
    stretch r = go j.state.held refl o.joining.holds ahead r
      where
        go : (h : Option Event) → j.state.held ≡ h → Holds w c (whole j.sweep) h o.joining.left → Ahead start h → Reached h end → found
        go (Some (Start y list v)) q e l r = upto e l r (rw q (omega arith))
        go (Some (End at list)) q e l r = upto e l r (rw q (omega arith))
        go None q e l r = absurd l
