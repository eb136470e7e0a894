-- `earlier` of lists meets its contract. Assumes nothing.
use Rattle.active_lists.proofs.Places.{lower_said}
use Rattle.active_lists.proofs.HeapedPlaces.earlier.Goals as goal

pub returns : goal.returns
returns c = lower_said c.args.other c.args.entry c.ranges.entry.fits
