-- `write_events` meets its contract: the events passed are written, and a sweep stands before the rest. Assumes nothing.
use Rattle.std.proofs.Common.{arith}
use Rattle.multiway_sweep.specs.Steps.{whole}
use Rattle.event_listing.proofs.Rows.{same_none, same_more, written_none, written_all, none_taken, list_few, taken_row, taken_more}
use Rattle.event_listing.proofs.write_events.Goals as goal

pub loop-place-init : goal.loop-place-init
loop-place-init g c = (written_none c.requires c.new-sweep.ensures.begins, same_none c.args.out.now)

pub unreachable-requires : goal.unreachable-requires
unreachable-requires g c = none_taken c.loop-place.invariant.0 (whole c.step.new.self) c.step.ensures.next (omega arith) c.in_default.is

pub row_of-row-requires : goal.row_of-row-requires
row_of-row-requires g c = list_few c.loop-place.invariant.0 (whole c.step.new.self) c.step.ensures.next c.in-Some.is

pub put_row-requires : goal.put_row-requires
put_row-requires g c = taken_row c.loop-place.invariant.0 (whole c.step.new.self) c.step.ensures.next c.in-Some.is c.row_of-row.ensures

pub loop-place-preserved : goal.loop-place-preserved
loop-place-preserved g c =
    let more = taken_more c.loop-place.invariant.0 (whole c.step.new.self) c.step.ensures.next c.in-Some.is c.row_of-row.ensures c.put_row.ensures.put in
    (more, same_more c.loop-place.invariant.1 c.put_row.ensures.same)

pub returns : goal.returns
returns g c = record { wrote = written_all c.loop-place.invariant.0 (omega arith); same = c.loop-place.invariant.1 }
