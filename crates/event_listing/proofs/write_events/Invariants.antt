-- `write_events` meets its contract: the events passed are written, and a sweep stands before the rest. Assumes nothing.
use Rattle.rules.specs.Lists.{held}
use Rattle.multiway_sweep.specs.Steps.{whole}
use Rattle.event_listing.specs.Listing.{columns_of, Same}
use Rattle.event_listing.proofs.Rows.{Written}
use Rattle.event_listing.proofs.write_events.Given as goal

abbrev pub invariant-loop-place : goal.invariant-loop-place
invariant-loop-place g l = Written g.P.Integer.width (held l.lent) (columns_of l.fn.out) (columns_of l.out) (whole l.sweep) l.place × Same l.fn.out l.out
