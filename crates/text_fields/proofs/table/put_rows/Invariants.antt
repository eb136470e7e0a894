use Rattle.text_fields.specs.Tables.{rows_text}
use Rattle.text_fields.specs.Writing.{Writes}
use Rattle.text_fields.proofs.table.put_rows.Given as goal

abbrev pub invariant-loop-i : goal.invariant-loop-i
invariant-loop-i g l = Writes l.fn.writer (rows_text (g.T.Table.fields l.table) l.i) l.writer
