-- `after_rows` meets its contract: the lines passed and what is spare make up the room. Assumes nothing.
use mathlib.Core.Path.{◌≡◌, ap}
use native.Mathlib.Omega.{arith}
use lib.ListN.{length, length-append}
use Rattle.answer_text.specs.Lines.{line}
use Rattle.text_fields.specs.Tables.{rows_text}
use Rattle.text_fields.proofs.Lines.{no_rows, row_more}
use Rattle.text_fields.proofs.Steps.{unfit}
use Rattle.text_fields.proofs.table.after_rows.Goals as goal

pub loop-i-init : goal.loop-i-init
loop-i-init g c = omega (arith, ap length (no_rows (g.T.Table.fields c.args.table.now)))

pub row-requires : goal.row-requires
row-requires g c = (omega (arith, g.met.T.Table.few), omega arith)

pub returns-in_err-spare : goal.returns-in_err-spare
returns-in_err-spare g c =
    let f = g.T.Table.fields c.args.table.now in
    rw c.from_residual.ensures
    (unfit (rows_text f) (λ i. line (f i)) c.args.n (λ i _. row_more f i) c.loop-i.i c.loop-i.spare c.args.room c.loop-i-test.true c.loop-i.invariant (rw c.row.ensures at c.in_err-spare.ensures))

pub loop-i-preserved : goal.loop-i-preserved
loop-i-preserved g c =
    let f = g.T.Table.fields c.args.table.now in
    omega (arith, c.loop-i.invariant, c.in_ok-spare.ensures, ap (λ t. length (line t)) c.row.ensures, ap length (row_more f c.loop-i.i), length-append (rows_text f c.loop-i.i) (line (f c.loop-i.i)))

pub returns : goal.returns
returns g c =
    let e : c.loop-i.i ≡ c.args.n = omega arith in
    rw e at c.loop-i.invariant
