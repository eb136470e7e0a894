-- Where a selection's stretches start and how far they reach. Assumes nothing.
use Rattle.std.specs.Prelude.{ℕ, ◌+◌, ◌≤◌, ◌<◌, ◌≡◌, cond, ◌&&◌, ltb}
use Rattle.std.specs.declared.option.Option.{Option}
use Rattle.std.specs.declared.option.Option.TheVariants.{None, Some}
use Rattle.multiway_sweep.specs.Front.{edge}
use Rattle.multiway_sweep.specs.Steps.{event_of}
use Rattle.multiway_sweep.specs.declared.Range.{Range}
use Rattle.multiway_sweep.specs.declared.Event.{Event}
use Rattle.multiway_sweep.specs.declared.Event.TheVariants.{Start, End}

-- a stretch runs from where it starts to the last point that the event does not bear on; there is none where that comes first, or no event does
abbrev pub StretchesTo : Option Event → Option ℕ → Option Range → Type 0
StretchesTo None from r = r ≡ None
StretchesTo (Some e) from (Some x) = (from ≡ Some x.start) × (x.start < edge (event_of e)) × (x.end + 1 ≡ edge (event_of e))
StretchesTo (Some e) from None = (s : ℕ) → from ≡ Some s → edge (event_of e) ≤ s

-- the next one starts where a range starts, or just past where one ends, unless no list is active then or that is the greatest point
abbrev pub starts_after : Event → ℕ → ℕ → Option ℕ
starts_after (Start x list value) n greatest = Some x.start
starts_after (End key list) n greatest = cond (ltb 0 n && ltb key greatest) (Some (key + 1)) None
