-- `print_merged` meets its contract: the header, then the rows. Assumes nothing.
use Rattle.text_rows.specs.Parts.{columns_of}
use Rattle.text_rows.proofs.Prints.{merged_parts}
use Rattle.text_rows.proofs.print_merged.Goals as goal

pub returns : goal.returns
returns c = let h = c.args.header in rw (merged_parts h.operation h.combiner h.lists (columns_of c.args.rows) h.pieces) c.print_table.ensures
