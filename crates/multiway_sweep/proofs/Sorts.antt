-- What is known of a step that took an event. Assumes nothing.
use mathlib.Core.List.{List}
use lib.IntN.{ℤ}
use Rattle.std.specs.declared.option.Option.{Option}
use Rattle.std.specs.declared.option.Option.TheVariants.{None, Some}
use Rattle.rules.specs.Lists.{Width}
use Rattle.rules.specs.Sweep as rules
use Rattle.multiway_sweep.specs.Steps.{Reading, event_of, On, Took, Holds}
use Rattle.multiway_sweep.specs.declared.Event.{Event}
use Rattle.multiway_sweep.specs.declared.Sweep.{Sweep}

-- what holds of the event that a step took, and of what is left then
pub on_step : {C P : Type 0} (w : Width P) (c : Reading P) (s : Sweep) (R : rules.Event ℤ → Type 0) (t : Option Event) {left : List (rules.Event ℤ)} → Holds w c s t left → On R ⊥ t → ((e : rules.Event ℤ) → Took w c s e left → R e → C) → C
on_step w c s R None h o k = absurd o
on_step w c s R (Some e) h o k = k (event_of e) h o
