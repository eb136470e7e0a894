-- `select_pass::keeps` meets its contract. Assumes nothing.
use mathlib.Core.Path.{◌∙◌}
use Rattle.many_way_rules.specs.declared.Admission.TheVariants.{Odd}
use Rattle.select_pass.proofs.Carried.{active_number, by_active}
use Rattle.select_pass.proofs.keeps.Goals as goal

pub returns-in-Odd : goal.returns-in-Odd
returns-in-Odd c act few s l = c.odd.ensures ∙ by_active act few s Odd ∙ rw c.in-Odd.is

pub returns-in_default : goal.returns-in_default
returns-in_default c act few s l = c.admits.ensures act (record { long = l; count = c.how_many.ensures ∙ active_number act few s })
