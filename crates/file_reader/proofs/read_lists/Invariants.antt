-- `file_reader::read_lists` meets its contract: the lists read stand in the columns. Assumes nothing.
use lib.ListN.{length}
use Rattle.file_records.specs.Columns.{columns_of, Same}
use Rattle.file_reader.proofs.Lists.{Filling}
use Rattle.file_reader.proofs.read_lists.Given as goal

abbrev pub invariant-loop-count : goal.invariant-loop-count
invariant-loop-count l =
    Filling (length l.initial.counts) l.from (columns_of l.initial.columns) l.initial.counts (columns_of l.columns) l.counts l.rest l.ranges l.count-index × Same l.initial.columns l.columns
