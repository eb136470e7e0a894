-- A sweep that is lent and drained gives the events of its lists, all of them, in their order. Assumes nothing.
use mathlib.Core.Path.{◌≡◌, refl}
use mathlib.Core.List.{List}
use lib.IntN.{ℤ}
use Rattle.rules.specs.Lists.{Width, Lent}
use Rattle.rules.specs.Refusals.{Formed}
use Rattle.std.specs.declared.option.Option.{Option}
use Rattle.std.specs.declared.option.Option.TheVariants.{None, Some}
use Rattle.rules.specs.Sweep as rules
use Rattle.rules.specs.declared.Kind.{Kind}
use Rattle.multiway_sweep.specs.Steps.{Reading, reads}
use Rattle.multiway_sweep.specs.Begins.{events_of, Begins}
use Rattle.multiway_sweep.specs.Sweeps.{Advanced, Advances}
use Rattle.multiway_sweep.specs.Drained as by_value
use Rattle.multiway_sweep.specs.declared.Event.{Event}
use Rattle.multiway_sweep.specs.declared.Sweep.{Sweep}
use Rattle.multiway_sweep.specs.declared.Advance.{Advance}
use Rattle.multiway_sweep.proofs.Drains.{drains}
use Rattle.sweep_step.specs.Lent.{Goes, Emptied, nothing, takes}

module _ {P : Type 0} (w : Width P) (c : Reading P) (s : Sweep) where
  after : (rest : List (rules.Event ℤ)) (t : Option Event) (x : Sweep) → Advanced w c s rest (record { taken = t; sweep = x }) → Goes w c x
  after rest (Some t) x a = let took = a.0.1 in (took.0, took.2)
  after rest None x a = (rest, a.1 a.0.1)

  -- after a step the next can be taken
  pub goes_on : (r : Advance) → Goes w c s → Advances w c s r → Goes w c r.sweep
  goes_on r g went = after g.0 r.taken r.sweep (went g.0 g.1)

-- each step of it is one by value
by_steps : {P : Type 0} {w : Width P} {c : Reading P} {s : Sweep} {es : List (rules.Event ℤ)} → Emptied w c s es → by_value.Drained w c s es
by_steps (nothing x m) = by_value.nothing (record { taken = _; sweep = x }) m refl
by_steps (takes t x m took left) = by_value.takes (record { taken = t; sweep = x }) m took (by_steps left)

-- from `new` on
pub empties : {P : Type 0} {w : Width P} {k : Kind} {l : Lent P} {s : Sweep} {es : List (rules.Event ℤ)} → Formed w k l → Begins w l.starts l.counts s → Emptied w (reads l) s es → es ≡ events_of w l
empties f b d = drains f b (by_steps d)
