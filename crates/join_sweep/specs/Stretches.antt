-- Where a join's sweep stands, and the next stretch that it finds. Assumes nothing.
use Rattle.std.specs.Prelude.{ℕ, ◌+◌, ◌*◌, ◌≤◌, ◌<◌, ◌≡◌, ◌⊎◌, false, List, ℤ, pos, length, replicate}
use Rattle.std.specs.declared.option.Option.{Option}
use Rattle.std.specs.declared.option.Option.TheVariants.{None, Some}
use Rattle.rules.specs.Piece.{Range, AllWellFormed}
use Rattle.rules.specs.Lists.{Width}
use Rattle.rules.specs.Sweep as rules
use Rattle.slots.specs.Slots.{Slots, slots_of, active, Counted}
use Rattle.slots.specs.Stretch.{Stretch, NoStretch}
use Rattle.multiway_sweep.specs.Front.{edge, Front, Next as Due}
use Rattle.multiway_sweep.specs.Steps.{Reading, whole, NoStart, On, Holds}
use Rattle.multiway_sweep.specs.Sweeps.{Same as Parts}
use Rattle.multiway_sweep.specs.declared.Range.{Range as Span}
use Rattle.multiway_sweep.specs.declared.Event.{Event}
use Rattle.multiway_sweep.specs.declared.Event.TheVariants.{Start, End}
use Rattle.join_sweep.specs.declared.JoinSweep.{JoinSweep}
use Rattle.join_sweep.specs.declared.JoinSweepMut.{JoinSweepMut}

-- a start at s is held
abbrev pub StartsAt : ℕ → Option Event → Type 0
StartsAt s (Some (Start x list value)) = s ≡ x.start
StartsAt s (Some (End key list)) = ⊥
StartsAt s None = ⊥

-- the end of the last stretch is held
abbrev pub EndsAt : Option ℕ → Option Event → Type 0
EndsAt last (Some (Start x list value)) = ⊥
EndsAt last (Some (End key list)) = last ≡ Some key
EndsAt last None = ⊥

-- which list's range ends with the last stretch, and which list's range starts at s, if such an event is held
abbrev pub EndsWith : Option Event → Option ℕ → Option ℕ → Type 0
EndsWith h last (Some list) = (e : ℕ) × (last ≡ Some e) × (h ≡ Some (End e list))
EndsWith h last None = EndsAt last h → ⊥

abbrev pub StartsWith : Option Event → ℕ → Option (ℕ × ℤ) → Type 0
StartsWith h s (Some r) = (x : Span) × (s ≡ x.start) × (h ≡ Some (Start x r.0 r.1))
StartsWith h s None = StartsAt s h → ⊥

-- something is active, or a start at s is held
abbrev pub Busy : ℕ → JoinSweep → Type 0
Busy s j = (0 < j.active_count) ⊎ StartsAt s j.held

-- where a stretch begins that is not before a point
abbrev pub Begun : JoinSweep → ℕ → Option ℕ → Type 0
Begun j from (Some s) = ((0 < j.active_count) × (s ≡ from)) ⊎ ((j.active_count ≡ 0) × StartsAt s j.held)
Begun j from None = (j.active_count ≡ 0) × NoStart j.held

-- the first point after the last stretch, and the moment at which that ended
abbrev pub after : Option ℕ → ℕ
after None = 0
after (Some e) = e + 1

abbrev pub moment_of : Option ℕ → ℕ
moment_of None = 0
moment_of (Some e) = 2 * e + 1

-- the same of a join's sweep
abbrev pub next_of : JoinSweep → ℕ
next_of j = after j.last_end

abbrev pub end_of : JoinSweep → ℕ
end_of j = moment_of j.last_end

-- where the stretch after the last one begins: nowhere exactly if that ended at the greatest point, or if nothing comes any more
abbrev pub BegunAfter : JoinSweep → ℕ → Option ℕ → Type 0
BegunAfter j greatest r = ((next_of j ≡ greatest + 1) × (r ≡ None)) ⊎ ((next_of j ≤ greatest) × Begun j (next_of j) r)

-- an event is held that bears on no point up to s
abbrev pub Ahead : ℕ → Option Event → Type 0
Ahead s = On (λ e. s < edge e) ⊥

-- r is the last point that the held event does not bear on
abbrev pub Reached : Option Event → ℕ → Type 0
Reached h r = On (λ e. r + 1 ≡ edge e) ⊥ h

-- what the lists have on the last stretch
abbrev pub places : JoinSweepMut → Slots
places j = slots_of j.current.now j.present.now

-- sixteen places that hold nothing
abbrev pub nowhere : Slots
nowhere = slots_of (replicate 16 (pos 0)) (replicate 16 false)

-- r has the parts and places that s has, lent by the same
pub record Same (s r : JoinSweepMut) : Type 0 where
  pub sweep : Parts s.sweep r.sweep
  pub current : r.current.ghost_name ≡ s.current.ghost_name
  pub present : r.present.ghost_name ≡ s.present.ghost_name

module _ {P : Type 0} (w : Width P) (c : Reading P) where
  -- before the first stretch: of the events that are left the first is held
  pub record Ready (j : JoinSweepMut) (left : List (rules.Event ℤ)) : Type 0 where
    pub holds : Holds w c (whole j.sweep) j.state.held left
    pub blank : places j ≡ nowhere
    pub idle : j.state.active_count ≡ 0
    pub first : j.state.last_end ≡ None

  module _ (ls : List (List Range)) where
    -- at the moment t a join has taken the events before, and has what the lists have then
    pub record Joining (j : JoinSweepMut) (t : ℕ) : Type 0 where
      pub formed : AllWellFormed w.points ls
      pub current_long : length j.current.now ≡ 16
      pub present_long : length j.present.now ≡ 16
      pub counted : Counted (length ls) j.state.active_count (places j)
      pub left : List (rules.Event ℤ)
      pub front : Front ls t left (active (length ls) (places j))
      pub holds : Holds w c (whole j.sweep) j.state.held left

    -- the starts of a point are taken, and something is active
    pub record Opened (j : JoinSweepMut) (start : ℕ) : Type 0 where
      pub joining : Joining j (2 * start)
      pub taken : Due (2 * start + 1) joining.left
      pub busy : 0 < j.state.active_count

    -- the first stretch from k on and the sweep at its end, or there is none
    abbrev pub Finds : ℕ → JoinSweepMut → Option Span → Type 0
    Finds k j None = NoStretch w.points ls k
    Finds k j (Some x) = Stretch w.points ls k (active (length ls) (places j)) x.start x.end × (j.state.last_end ≡ Some x.end) × Joining j (2 * x.end + 1)

  -- a join stands at a moment, whatever its lists
  abbrev pub Stands : JoinSweepMut → ℕ → Type 0
  Stands j t = (ls : List (List Range)) × Joining ls j t
