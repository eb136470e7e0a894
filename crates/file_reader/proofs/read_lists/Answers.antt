-- `file_reader::read_lists` meets its contract: the lists read stand in the columns. Assumes nothing.
use native.Mathlib.Omega.{arith}
use Rattle.std.proofs.lemmas.Result.{err_from_is_err_and}
use Rattle.file_records.proofs.Taken.{same_more}
use Rattle.file_reader.proofs.Lists.{filling_stops, filling_more, filling_last}
use Rattle.file_reader.proofs.read_lists.Goals as goal

pub returns-in_err-past : goal.returns-in_err-past
returns-in_err-past c =
    let p = err_from_is_err_and c.from_residual.result c.from_residual.ensures.1 in
    let read = filling_stops _ _ _ _ _ _ _ _ _ c.loop-count.invariant.0 c.loop-count-test.true c.in_err-past.ensures.read in
    record { read = rw (p.1, p.2) read; same = same_more c.loop-count.invariant.1 c.in_err-past.ensures.same }

pub loop-count-preserved : goal.loop-count-preserved
loop-count-preserved c =
    let more = filling_more _ _ _ _ _ _ _ _ _ c.loop-count.invariant.0 c.loop-count-test.true (omega arith) _ _ _ c.in_ok-past.ensures.read in
    (more, same_more c.loop-count.invariant.1 c.in_ok-past.ensures.same)

pub returns : goal.returns
returns c = record { read = filling_last _ _ _ _ _ _ _ _ _ c.loop-count.invariant.0 c.loop-count-test.false; same = c.loop-count.invariant.1 }
