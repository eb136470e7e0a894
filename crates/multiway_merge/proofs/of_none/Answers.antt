-- `multiway_merge::of_none` meets its contract. Assumes nothing.
use Rattle.std.specs.declared.option.Option.TheVariants.{Some}
use mir.Syntax.{w64}
use Rattle.integer.proofs.Laws.{back}
use mathlib.Core.Path.{sym, ap, ◌∙◌}
use native.Mathlib.Omega.{arith}
use Rattle.multiway_merge.proofs.Outcomes.{none_nothing, none_lacks, none_whole}
use Rattle.multiway_merge.proofs.of_none.Goals as goal

-- nothing is admitted
pub returns-in_default-clause-leaves : goal.returns-in_default-clause-leaves
returns-in_default-clause-leaves g c = none_nothing g.P.Integer.width _ (omega (arith, c.greatest_key-greatest.ensures)) _ (sym c.in_default.is ∙ c.rule_on_none.ensures)

-- there is no room for the whole line
pub returns-then-space-eq0-clause-leaves : goal.returns-then-space-eq0-clause-leaves
returns-then-space-eq0-clause-leaves g c = none_lacks g.P.Integer.width _ (omega (arith, c.greatest_key-greatest.ensures)) _ (sym c.in-Some.is ∙ c.rule_on_none.ensures) (sym c.requires ∙ c.if-space-eq0.true)

-- it is written
pub returns-clause-leaves : goal.returns-clause-leaves
returns-clause-leaves g c = none_whole g.P.Integer.width _ (omega (arith, c.greatest_key-greatest.ensures)) _ (ap Some (back w64 _ (omega arith)) ∙ sym c.in-Some.is ∙ c.rule_on_none.ensures) (omega (arith, c.requires, c.if-space-eq0.false)) c.put.ensures.put c.greatest_key-greatest.ensures
