-- A sweep by value: what an advance of it promises. Assumes nothing.
use Rattle.std.specs.Prelude.{◌≡◌, List, [], ℤ}
use Rattle.rules.specs.Lists.{Width, Lent}
use Rattle.rules.specs.Sweep as rules
use Rattle.multiway_sweep.specs.Steps.{Reading, Sweeping, Stepped}
use Rattle.multiway_sweep.specs.Begins.{Begins}
use Rattle.multiway_sweep.specs.declared.Sweep.{Sweep}
use Rattle.multiway_sweep.specs.declared.SweepMut.{SweepMut}
use Rattle.multiway_sweep.specs.declared.Advance.{Advance}

module _ {P : Type 0} (w : Width P) (c : Reading P) where
  -- the sweep s is advanced: a step took what comes next, and where nothing is left the sweep after it has nothing left
  abbrev pub Advanced : Sweep → List (rules.Event ℤ) → Advance → Type 0
  Advanced s rest r = Stepped w c s r.sweep rest r.taken × (rest ≡ [] → Sweeping w c r.sweep rest)

  -- r is what the sweep s comes to, whatever events are left
  abbrev pub Advances : Sweep → Advance → Type 0
  Advances s r = (rest : List (rules.Event ℤ)) → Sweeping w c s rest → Advanced s rest r

-- the sweep s has all events of the lists left
abbrev pub NewSweep : {P : Type 0} → Width P → Lent P → Sweep → Type 0
NewSweep w l s = Begins w l.starts l.counts s

-- r has the parts that s has, lent by the same
pub record Same (s r : SweepMut) : Type 0 where
  pub courses : r.courses.ghost_name ≡ s.courses.ghost_name
  pub starts : r.starts.ghost_name ≡ s.starts.ghost_name
  pub active_ends : r.active_ends.ghost_name ≡ s.active_ends.ghost_name
