-- `file_records::read_ranges` meets its contract: the ranges read stand in the columns. Assumes nothing.
use Rattle.file_records.specs.Columns.{columns_of, Same}
use Rattle.file_records.proofs.Ranges.{Reading}
use Rattle.file_records.proofs.read_ranges.Given as goal

abbrev pub invariant-loop-i : goal.invariant-loop-i
invariant-loop-i l = Reading l.n l.from l.place (columns_of l.initial.columns) (columns_of l.columns) l.rest l.i × Same l.initial.columns l.columns
