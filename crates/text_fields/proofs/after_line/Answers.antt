-- `after_line` meets its contract: the fields passed, what is spare and a byte for each make up the room. Assumes nothing.
use mathlib.Core.Path.{◌≡◌, ap}
use native.Mathlib.Omega.{arith}
use lib.ListN.{length, take, get_or, length-append}
use lib.Seq.{take-length}
use Rattle.std.specs.List.{flat_map}
use Rattle.std.proofs.lemmas.List.Folds.{length-flat_map-take}
use Rattle.text_fields.specs.declared.Field.TheVariants.{Join}
use Rattle.text_fields.specs.Fields.{spelled}
use Rattle.text_fields.proofs.Lines.{line_long, one_more}
use Rattle.text_fields.proofs.after_line.Goals as goal

pub returns-in_err-spare : goal.returns-in_err-spare
returns-in_err-spare c = rw c.from_residual.ensures (omega (arith, line_long c.args.fields.now, c.in_err-spare.ensures))

pub loop-field-init : goal.loop-field-init
loop-field-init c = omega (arith, c.in_ok-spare.ensures, c.max.ensures)

pub returns-in_err-spare-2 : goal.returns-in_err-spare-2
returns-in_err-spare-2 c =
    let fs = c.args.fields.now in
    let i = c.loop-field.field-index in
    rw c.from_residual-in_err-spare-2.ensures
    (omega (arith, line_long fs, c.loop-field.invariant, c.width.ensures, c.in_err-spare-2.ensures, ap length (one_more spelled fs i c.loop-field-test.true), length-append (flat_map spelled (take i fs)) (spelled (get_or fs i Join)), length-flat_map-take spelled fs i Join c.loop-field-test.true))

pub loop-field-preserved : goal.loop-field-preserved
loop-field-preserved c =
    let fs = c.args.fields.now in
    let i = c.loop-field.field-index in
    omega (arith, c.loop-field.invariant, c.width.ensures, c.in_ok-spare-2.ensures, ap length (one_more spelled fs i c.loop-field-test.true), length-append (flat_map spelled (take i fs)) (spelled (get_or fs i Join)))

pub returns : goal.returns
returns c =
    let all : c.loop-field.field-index ≡ length c.args.fields.now = omega arith in
    omega (arith, line_long c.args.fields.now, c.loop-field.invariant, ap (λ k. length (flat_map spelled (take k c.args.fields.now))) all, ap (λ fs. length (flat_map spelled fs)) (take-length c.args.fields.now))
