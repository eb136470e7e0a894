-- `Active::activate` meets its contract. Assumes nothing.
use mathlib.Core.Path.{sym, ap, ◌∙◌}
use native.Mathlib.Omega.{arith}
use Rattle.active_lists.specs.Kept.{seen}
use Rattle.active_lists.specs.declared.Mark.TheVariants.{On}
use Rattle.active_lists.proofs.Keeps.{told_by, changed, few, room, same_mark, other_mark, begins_again, enters}
use Rattle.active_lists.proofs.Active.activate.Goals as goal

pub overflow_add-self : goal.overflow_add-self
overflow_add-self c = omega (arith, few c.self.invariant)

pub climb-requires : goal.climb-requires
climb-requires c = room c.self.invariant c.requires.small (same_mark (sym c.eq.ensures ∙ c.if-eq.true))

pub overflow_add-self-then-eq : goal.overflow_add-self-then-eq
overflow_add-self-then-eq c = omega (arith, room c.self.invariant c.requires.small (same_mark (sym c.eq.ensures ∙ c.if-eq.true)))

pub invariant_of-self : goal.invariant_of-self
invariant_of-self c = enters c.self.invariant c.requires.small (same_mark (sym c.eq.ensures ∙ c.if-eq.true)) c.climb.new.places c.climb.ensures

pub invariant_of-self-else-eq : goal.invariant_of-self-else-eq
invariant_of-self-else-eq c = begins_again c.self.invariant c.requires.small (told_by c.self.inside.marks c.args.list (ap seen c.self.view_is) c.requires.off) (other_mark (sym c.eq.ensures ∙ c.if-eq.false))

pub returns-then-eq : goal.returns-then-eq
returns-then-eq c = changed c.self.inside.marks c.args.list On (ap seen c.self.view_is) c.self.invariant.whole c.requires.small

pub returns-else-eq : goal.returns-else-eq
returns-else-eq c = changed c.self.inside.marks c.args.list On (ap seen c.self.view_is) c.self.invariant.whole c.requires.small
