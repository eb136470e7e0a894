-- `JoinSweepMut::new` meets its contract. Assumes nothing.
use mathlib.Core.Path.{refl}
use Rattle.multiway_sweep.proofs.Begun.{begun}
use Rattle.join_sweep.proofs.JoinSweepMut.new.Goals as goal

pub step-held-requires : goal.step-held-requires
step-held-requires g c = (_, begun c.requires.formed.1 c.requires.new)

pub returns-clause-ready : goal.returns-clause-ready
returns-clause-ready g c = record { holds = (c.step-held.ensures.next _ (begun c.requires.formed.1 c.requires.new)).1; blank = refl; idle = refl; first = refl }
