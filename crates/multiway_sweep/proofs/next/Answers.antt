-- `next` meets its contract. Assumes nothing.
use Rattle.multiway_sweep.proofs.Sweeps.{went}
use Rattle.multiway_sweep.proofs.next.Goals as goal

pub returns : goal.returns
returns g c rest s = went _ s (c.step-taken.ensures.next rest s) c.step-taken.ensures.stays
