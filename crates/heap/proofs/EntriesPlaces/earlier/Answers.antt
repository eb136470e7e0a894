-- `earlier` of entries meets its contract. Assumes nothing.
use Rattle.std.proofs.Common.{rules, ◌<◌}
use Rattle.heap.proofs.Moves.{earlier_said}
use Rattle.heap.proofs.EntriesPlaces.earlier.Goals as goal

pub returns : goal.returns
returns c =
    let f : c.args.entry.list < 256 = search rules in
    let g : c.args.other.list < 256 = search rules in
    rw c.lt.ensures (earlier_said c.args.entry.key c.args.other.key f g)
