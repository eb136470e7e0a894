-- `print_refusal` meets its contract: a line that is measured, then written. Assumes nothing.
use Prim.Native.Nat.{◌+◌}
use mathlib.Core.Path.{◌≡◌, refl, sym}
use native.Mathlib.Omega.{arith}
use lib.ListN.{length}
use borrow.Author.Rules.{rules}
use Rattle.answer_text.specs.Lines.{line}
use Rattle.answer_text.specs.Answers.{refusal}
use Rattle.text_rows.proofs.Prints.{unfit, whole, refusal_part}
use Rattle.text_rows.proofs.print_refusal.Goals as goal

pub returns-in_err-after_line : goal.returns-in_err-after_line
returns-in_err-after_line c =
    rw (c.from_residual.ensures, refusal_part c.args.code c.args.number)
    (unfit (line (refusal c.args.code c.args.number)) c.args.out.now (rw c.from.ensures at c.in_err-after_line.ensures))

pub returns : goal.returns
returns c =
    let t = line (refusal c.args.code c.args.number) in
    let measured : length t + c.in_ok-after_line.field-0 ≡ length c.args.out.now = rw c.from.ensures at c.in_ok-after_line.ensures in
    rw (refusal_part c.args.code c.args.number)
    (whole t c.args.out.now refl refl (omega arith) (rw c.from.ensures at c.line.ensures) (search (rules, sym c.line.ensures.same)))
