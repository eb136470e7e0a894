-- A sweep that is lent: what a step of it promises, and how it is drained. Assumes nothing.
use Rattle.std.specs.Prelude.{◌≡◌, List, [], ◌∷◌, ℤ}
use Rattle.std.specs.declared.option.Option.{Option}
use Rattle.std.specs.declared.option.Option.TheVariants.{None}
use Rattle.rules.specs.Lists.{Width}
use Rattle.rules.specs.Sweep as rules
use Rattle.multiway_sweep.specs.Steps.{Reading, On, Underway}
use Rattle.multiway_sweep.specs.Sweeps.{Advances}
use Rattle.multiway_sweep.specs.declared.Event.{Event}
use Rattle.multiway_sweep.specs.declared.Sweep.{Sweep}

module _ {P : Type 0} (w : Width P) (c : Reading P) where
  -- the sweep s has come somewhere
  abbrev pub Goes : Sweep → Type 0
  Goes s = Underway w c s

  -- a step took this, and what it was lent stood at the sweep s before it and stands at the sweep x after it: what `next` promises
  abbrev pub Moves : Sweep → Option Event → Sweep → Type 0
  Moves s taken x = Advances w c s (record { taken = taken; sweep = x })

  -- steps of one sweep that is lent, each from where the one before it left it, take these events, and then nothing
  pub data Emptied : Sweep → List (rules.Event ℤ) → Type 0 where
    nothing : {s : Sweep} (x : Sweep) → Moves s None x → Emptied s []
    takes : {s : Sweep} (t : Option Event) (x : Sweep) {e : rules.Event ℤ} {es : List (rules.Event ℤ)} → Moves s t x → On (λ y. y ≡ e) ⊥ t → Emptied x es → Emptied s (e ∷ es)
