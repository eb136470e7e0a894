-- `put_rows` meets its contract: the lines passed are written. Assumes nothing.
use mathlib.Core.Path.{◌≡◌}
use native.Mathlib.Omega.{arith}
use Rattle.answer_text.specs.Lines.{line}
use Rattle.text_fields.specs.Tables.{rows_text}
use Rattle.text_fields.proofs.Lines.{no_rows, row_more}
use Rattle.text_fields.proofs.Steps.{step_fits, stepped}
use Rattle.text_fields.proofs.Writing.{writes_none}
use Rattle.text_fields.proofs.table.put_rows.Goals as goal

pub loop-i-init : goal.loop-i-init
loop-i-init g c = rw (no_rows (g.T.Table.fields c.args.table.now)) (writes_none c.args.writer.now)

pub row-requires : goal.row-requires
row-requires g c = (omega (arith, g.met.T.Table.few), omega arith)

pub line-requires : goal.line-requires
line-requires g c =
    let f = g.T.Table.fields c.args.table.now in
    rw c.row.ensures (step_fits (rows_text f) (λ i. line (f i)) c.args.n (λ i _. row_more f i) c.requires.1 c.loop-i.i c.loop-i-test.true c.loop-i.invariant)

pub loop-i-preserved : goal.loop-i-preserved
loop-i-preserved g c =
    let f = g.T.Table.fields c.args.table.now in
    stepped (rows_text f) (λ i. line (f i)) c.args.n (λ i _. row_more f i) c.requires.1 c.loop-i.i c.loop-i-test.true c.loop-i.invariant (rw c.row.ensures at c.line.ensures)

pub returns : goal.returns
returns g c =
    let e : c.loop-i.i ≡ c.args.n = omega arith in
    rw e at c.loop-i.invariant
