-- A sweep by value that is drained: whoever advances it until nothing is taken. Assumes nothing.
use Rattle.std.specs.Prelude.{◌≡◌, List, [], ◌∷◌, ℤ}
use Rattle.std.specs.declared.option.Option.TheVariants.{None}
use Rattle.rules.specs.Lists.{Width}
use Rattle.rules.specs.Sweep.{Event}
use Rattle.multiway_sweep.specs.Steps.{Reading, On}
use Rattle.multiway_sweep.specs.Sweeps.{Advances}
use Rattle.multiway_sweep.specs.declared.Sweep.{Sweep}
use Rattle.multiway_sweep.specs.declared.Advance.{Advance}

module _ {P : Type 0} (w : Width P) (c : Reading P) where
  -- calls of `next` that meet its contract, each of the sweep that the one before it left, take these events, and then nothing
  pub data Drained : Sweep → List (Event ℤ) → Type 0 where
    nothing : {s : Sweep} (r : Advance) → Advances w c s r → r.taken ≡ None → Drained s []
    takes : {s : Sweep} (r : Advance) {e : Event ℤ} {es : List (Event ℤ)} → Advances w c s r → On (λ x. x ≡ e) ⊥ r.taken → Drained r.sweep es → Drained s (e ∷ es)
