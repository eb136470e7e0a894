-- `print_paired` meets its contract: the header, then the rows. Assumes nothing.
use Rattle.text_pairs.specs.Pairs.{columns_of}
use Rattle.text_rows.proofs.Prints.{paired_parts}
use Rattle.text_rows.proofs.print_paired.Goals as goal

pub returns : goal.returns
returns c = let h = c.args.header in rw (paired_parts h.operation h.combiner h.lists (columns_of c.args.pairs) h.pieces) c.print_table.ensures
