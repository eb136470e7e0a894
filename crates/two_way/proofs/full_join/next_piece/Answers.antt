-- `two_way::full_join::next_piece` meets its contract: each way takes off the piece that comes next. Assumes nothing.
use mathlib.Core.Path.{refl, sym, ◌∙◌}
use native.Mathlib.Omega.{arith}
use Rattle.rules.specs.declared.Pairing.TheVariants.{Full}
use Rattle.two_way.proofs.Emit.{emitted}
use Rattle.two_way.proofs.Next.{both, left_prefix, left_alone, right_prefix, right_alone, both_start, both_done}
use Rattle.two_way.proofs.full_join.next_piece.Goals as goal

pub returns-then-left-right : goal.returns-then-left-right
returns-then-left-right g c =
    emitted (left_prefix (both c.requires c.in-Some-Some.ensures c.in-Some-Some.ensures' c.key_at-left_end.ensures c.key_at-right_end.ensures) Full refl c.if-left-right.true c.min.ensures c.of_left.ensures) c.emit.ensures

pub returns-then-right-left : goal.returns-then-right-left
returns-then-right-left g c =
    emitted (right_prefix (both c.requires c.in-Some-Some.ensures c.in-Some-Some.ensures' c.key_at-left_end.ensures c.key_at-right_end.ensures) c.if-right-left.true c.min-then-right-left.ensures c.of_right.ensures) c.emit-then-right-left.ensures

pub returns-else-right-left : goal.returns-else-right-left
returns-else-right-left g c =
    emitted (both_start (both c.requires c.in-Some-Some.ensures c.in-Some-Some.ensures' c.key_at-left_end.ensures c.key_at-right_end.ensures) (omega (arith, c.if-left-right.false, c.if-right-left.false)) c.min-else-right-left.ensures c.of_both.ensures) c.emit-else-right-left.ensures

pub returns-in-Some-None : goal.returns-in-Some-None
returns-in-Some-None g c =
    emitted (left_alone c.requires Full refl c.in-Some-None.ensures c.in-Some-None.ensures' c.key_at.ensures c.of_left-in-Some-None.ensures) c.emit-step.ensures

pub returns-in-None-Some : goal.returns-in-None-Some
returns-in-None-Some g c =
    emitted (right_alone c.requires (sym c.in-None-Some.is-0 ∙ c.left.ensures) c.in-None-Some.ensures c.key_at-in-None-Some.ensures c.of_right-in-None-Some.ensures) c.emit-step-in-None-Some.ensures

pub returns-in-None-None : goal.returns-in-None-None
returns-in-None-None g c =
    both_done c.requires Full (sym c.in-None-None.is-0 ∙ c.left.ensures) (sym c.in-None-None.is-1 ∙ c.right.ensures)
