-- `multiway_pass::admits` meets its contract: each admission by its case. Assumes nothing.
use mathlib.Core.Path.{◌∙◌}
use Rattle.many_way_rules.specs.declared.Admission.TheVariants.{Every, Any, Odd}
use Rattle.multiway_pass.proofs.Rulings.{admits_number}
use Rattle.multiway_pass.proofs.admits.Goals as goal

pub returns-in-Every : goal.returns-in-Every
returns-in-Every c s k =
    admits_number Every k ∙ rw c.in-Every.is

pub returns-in-Any : goal.returns-in-Any
returns-in-Any c s k =
    admits_number Any k ∙ rw c.in-Any.is

pub returns-in-Odd : goal.returns-in-Odd
returns-in-Odd c s k =
    admits_number Odd k ∙ rw c.in-Odd.is
