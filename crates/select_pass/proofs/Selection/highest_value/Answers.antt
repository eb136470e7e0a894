-- `select_pass::Selection::highest_value` meets its contract. Assumes nothing.
use mathlib.Core.Path.{ap, ◌∙◌}
use Rattle.std.specs.declared.option.Option.TheVariants.{Some}
use native.Mathlib.Omega.{arith}
use Rattle.integer.proofs.Laws.{wide}
use Rattle.select_pass.proofs.Carried.{kept_none, kept_top}
use Rattle.select_pass.proofs.Selection.highest_value.Goals as goal

pub returns-in_err-list-clause-says : goal.returns-in_err-list-clause-says
returns-in_err-list-clause-says c act k l =
    c.from_residual.ensures ∙ kept_none c.args.admission k (c.keeps.ensures act k.few k.stands l) c.if-not-keeps.false c.in_err-list.ensures.highest

pub returns-clause-says : goal.returns-clause-says
returns-clause-says c act k l =
    ap Some (wide _ (omega arith)).1 ∙ kept_top c.args.admission k (c.keeps.ensures act k.few k.stands l) c.if-not-keeps.false c.in_ok-list.ensures.highest
