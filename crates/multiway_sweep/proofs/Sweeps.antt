-- A sweep by value, advanced by a step. Assumes nothing.
use Prim.Native.Nat.{ℕ}
use mathlib.Core.Path.{◌≡◌, refl}
use mathlib.Core.List.{List}
use native.Mathlib.Omega.{arith}
use lib.IntN.{ℤ}
use Rattle.std.specs.declared.option.Option.{Option}
use Rattle.std.specs.declared.option.Option.TheVariants.{None, Some}
use Rattle.rules.specs.Lists.{Width}
use Rattle.rules.specs.Sweep as rules
use Rattle.multiway_sweep.specs.Steps.{Reading, Sweeping, Stepped}
use Rattle.multiway_sweep.specs.Sweeps.{Advanced}
use Rattle.multiway_sweep.specs.declared.Event.{Event}
use Rattle.multiway_sweep.specs.declared.Sweep.{Sweep}

-- where something was taken, something was left
pub went : {P : Type 0} {w : Width P} {c : Reading P} {s x : Sweep} {rest : List (rules.Event ℤ)} (t : Option Event) → Sweeping w c s rest → Stepped w c s x rest t → (t ≡ None → x ≡ s) → Advanced w c s rest (record { taken = t; sweep = x })
went None g st stays = (st, λ e. rw (stays refl) g)
went (Some t) g st stays = (st, λ e. let h = st.1.1 in let q : ◌≡◌ {A = ℕ} 0 1 = cc in absurd (omega arith))
