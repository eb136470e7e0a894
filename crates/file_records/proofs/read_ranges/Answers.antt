-- `file_records::read_ranges` meets its contract: the ranges read stand in the columns. Assumes nothing.
use Rattle.std.proofs.lemmas.Result.{err_from_is_err_and}
use Rattle.file_records.proofs.Taken.{same_more}
use Rattle.file_records.proofs.Ranges.{reading_more, reading_stops, reading_last}
use Rattle.file_records.proofs.read_ranges.Goals as goal

pub returns-in_err-rest : goal.returns-in_err-rest
returns-in_err-rest c =
    let p = err_from_is_err_and c.from_residual.result c.from_residual.ensures.1 in
    let read = reading_stops _ _ _ _ _ _ _ c.loop-i.invariant.0 c.loop-i-test.true _ c.in_err-rest.ensures.read in
    record { read = rw (p.1, p.2) read; same = same_more c.loop-i.invariant.1 c.in_err-rest.ensures.same }

pub loop-i-preserved : goal.loop-i-preserved
loop-i-preserved c =
    (reading_more _ _ _ _ _ _ _ c.loop-i.invariant.0 c.loop-i-test.true _ _ c.in_ok-rest.ensures.read, same_more c.loop-i.invariant.1 c.in_ok-rest.ensures.same)

pub returns : goal.returns
returns c = record { read = reading_last _ _ _ _ _ _ _ c.loop-i.invariant.0 c.loop-i-test.false; same = c.loop-i.invariant.1 }
