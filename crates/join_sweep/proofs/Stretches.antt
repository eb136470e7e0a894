-- Where a stretch begins: nowhere past the greatest point. Assumes nothing.
use Prim.Native.Nat.{ℕ, ◌+◌, ◌≤◌}
use mathlib.Core.Path.{◌≡◌, refl, ap}
use mathlib.Core.Logic.{inl}
use native.Mathlib.Omega.{arith}
use Rattle.std.specs.declared.option.Option.TheVariants.{None, Some}
use Rattle.join_sweep.specs.Stretches.{after, BegunAfter}
use Rattle.join_sweep.specs.declared.JoinSweep.{JoinSweep}

pub begun_over : (j : JoinSweep) (greatest : ℕ) {e : ℕ} → j.last_end ≡ Some e → after j.last_end ≤ greatest + 1 → greatest ≤ e → BegunAfter j greatest None
begun_over j greatest k h q = inl (omega (arith, ap after k), refl)
