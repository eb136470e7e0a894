-- `file_reader::read_list` meets its contract. Assumes nothing.
use native.Mathlib.Omega.{arith}
use mathlib.Core.Path.{◌∙◌}
use Rattle.std.proofs.lemmas.Result.{err_from_is_err_and}
use Rattle.file_records.proofs.Taken.{same_none}
use Rattle.file_reader.proofs.Lists.{list_stops, list_over, list_fine, list_got}
use Rattle.file_reader.proofs.read_list.Goals as goal

pub returns-in_err-ranges : goal.returns-in_err-ranges
returns-in_err-ranges c =
    let p = err_from_is_err_and c.from_residual.result c.from_residual.ensures.1 in
    record { read = rw (p.1, p.2) (list_stops c.args.from _ c.in_err-ranges.ensures.marked); same = same_none c.args.columns.now }

pub returns-then-left-count : goal.returns-then-left-count
returns-then-left-count c =
    record { read = list_over c.args.from _ c.in_ok-ranges.ranges c.in_ok-ranges.ensures.marked _ c.big_endian-count.ensures.0 (omega arith); same = same_none c.args.columns.now }

pub returns-in_err-rest : goal.returns-in_err-rest
returns-in_err-rest c =
    let p = err_from_is_err_and c.from_residual-in_err-rest.result c.from_residual-in_err-rest.ensures.1 in
    let fine = list_fine c.args.from _ c.in_ok-ranges.ranges c.in_ok-ranges.ensures.marked _ c.big_endian-count.ensures.0 (omega arith) in
    record { read = rw (p.1, p.2) (fine ∙ c.in_err-rest.ensures.read); same = c.in_err-rest.ensures.same }

pub returns : goal.returns
returns c =
    let read = list_got c.args.from _ c.in_ok-ranges.ranges c.in_ok-ranges.ensures.marked _ c.big_endian-count.ensures.0 (omega arith) _ _ _ c.in_ok-rest.ensures.read in
    record { read = read; same = c.in_ok-rest.ensures.same }
