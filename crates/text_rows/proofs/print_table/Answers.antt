-- `print_table` meets its contract: the header, then the rows, after both are measured. Assumes nothing.
use Prim.Native.Nat.{◌≤◌}
use mathlib.Core.Path.{refl, sym, ap}
use mathlib.Core.List.{◌++◌}
use native.Mathlib.Omega.{arith}
use borrow.Author.Rules.{rules}
use lib.ListN.{length, length-append}
use Rattle.answer_text.specs.Lines.{line}
use Rattle.text_fields.specs.Tables.{rows_text}
use Rattle.text_fields.proofs.Writing.{both}
use Rattle.text_rows.specs.Parts.{header_of}
use Rattle.text_rows.proofs.Prints.{whole}
use Rattle.text_rows.proofs.print_table.Goals as goal

pub returns : goal.returns
returns g c =
    let first = line (header_of c.args.header) in
    let rows = rows_text (g.T.Table.fields c.args.table.now) c.args.header.pieces in
    let long : length (first ++ rows) ≤ length c.args.out.now = omega (arith, length-append first rows, ap (λ fs. length (line fs)) c.fields-first.ensures, c.in_ok-spare.ensures, c.in_ok-after_rows.ensures) in
    let all = both first rows (omega arith) (rw c.fields-first.ensures at c.line.ensures) c.put_rows.ensures in
    whole (first ++ rows) c.args.out.now refl refl long all (search (rules, sym all.same))
