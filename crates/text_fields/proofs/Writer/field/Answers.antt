-- `field` meets its contract: a number as the library prints it. Assumes nothing.
use mathlib.Core.Path.{ap, ◌∙◌}
use borrow.Author.Rules.{rules}
use mir.Syntax.{w64}
use mir.Val.{Fits, SFits}
use Rattle.std.specs.Fmt.{signed_decimal}
use Rattle.integer.proofs.Laws.{back}
use Rattle.text_fields.proofs.Decimal.{decimal_same, signed_same}
use Rattle.text_fields.proofs.Writer.field.Goals as goal

pub word-requires-in-Count : goal.word-requires-in-Count
word-requires-in-Count c =
    let f : Fits w64 c.in-Count.n = search rules in
    rw (c.as_bytes.ensures.value ∙ c.format.ensures.text ∙ decimal_same c.in-Count.n f.fits) (rw c.in-Count.is at c.requires)

pub returns-in-Count : goal.returns-in-Count
returns-in-Count c =
    let f : Fits w64 c.in-Count.n = search rules in
    rw c.in-Count.is (rw (c.as_bytes.ensures.value ∙ c.format.ensures.text ∙ decimal_same c.in-Count.n f.fits) at c.word-in-Count.ensures)

pub word-requires-in-Number : goal.word-requires-in-Number
word-requires-in-Number c =
    let z = c.in-Number.z in
    let f : SFits w64 z = search rules in
    rw (c.as_bytes-in-Number.ensures.value ∙ c.format-in-Number.ensures.text ∙ ap signed_decimal (back w64 z f.sfits) ∙ signed_same z f.sfits) (rw c.in-Number.is at c.requires)

pub returns-in-Number : goal.returns-in-Number
returns-in-Number c =
    let z = c.in-Number.z in
    let f : SFits w64 z = search rules in
    rw c.in-Number.is (rw (c.as_bytes-in-Number.ensures.value ∙ c.format-in-Number.ensures.text ∙ ap signed_decimal (back w64 z f.sfits) ∙ signed_same z f.sfits) at c.word-in-Number.ensures)
