-- `Active::deactivate` meets its contract. Assumes nothing.
use mathlib.Core.Path.{ap}
use native.Mathlib.Omega.{arith}
use Rattle.active_lists.specs.Kept.{seen}
use Rattle.active_lists.specs.declared.Mark.TheVariants.{Ended}
use Rattle.active_lists.proofs.Keeps.{told_by, changed, some, ends}
use Rattle.active_lists.proofs.Active.deactivate.Goals as goal

pub overflow_sub-self : goal.overflow_sub-self
overflow_sub-self c = omega (arith, some c.self.invariant c.requires.small (told_by c.self.inside.marks c.args.list (ap seen c.self.view_is) c.requires.on))

pub invariant_of-self : goal.invariant_of-self
invariant_of-self c = ends c.self.invariant c.requires.small (told_by c.self.inside.marks c.args.list (ap seen c.self.view_is) c.requires.on)

pub returns : goal.returns
returns c = changed c.self.inside.marks c.args.list Ended (ap seen c.self.view_is) c.self.invariant.whole c.requires.small
