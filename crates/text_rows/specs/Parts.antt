-- The parts of an answer's text: its header, and the columns of many-way rows. Assumes nothing.
use Rattle.std.specs.Prelude.{ℤ, List, ℕ}
use Rattle.rules.specs.Merged.{Merged, columns}
use Rattle.answer_text.specs.Answers.{header}
use Rattle.text_rows.specs.declared.Header.{Header}
use Rattle.text_rows.specs.declared.Rows.{Rows}

abbrev pub header_of : Header → List (List ℕ)
header_of h = header h.operation h.combiner h.lists h.pieces

abbrev pub columns_of : Rows → Merged ℤ
columns_of r = columns r.start.now r.end.now r.value.now
