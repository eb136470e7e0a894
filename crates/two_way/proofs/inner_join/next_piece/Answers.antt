-- `two_way::inner_join::next_piece` meets its contract: a range that ends before the other starts changes nothing, and an overlap is the piece that comes next. Assumes nothing.
use mathlib.Core.Path.{refl}
use native.Mathlib.Omega.{arith}
use Rattle.rules.specs.declared.Pairing.TheVariants.{Inner}
use Rattle.two_way.specs.Sides.{two, end_at, stop}
use Rattle.two_way.proofs.Sides.{fresh_less}
use Rattle.two_way.proofs.Next.{both, instead, instead_none, instead_emitted, inner_wants_right, drop_left, drop_right, overlap, left_done, right_done}
use Rattle.two_way.proofs.inner_join.next_piece.Goals as goal

pub returns-in_err-left : goal.returns-in_err-left
returns-in_err-left g c =
    let i = c.loop-left.invariant in rw c.from_residual.ensures (instead_none i (left_done i.ready Inner (λ b. refl) c.in_err-left.ensures))

pub returns-in_err-right : goal.returns-in_err-right
returns-in_err-right g c =
    let i = c.loop-left.invariant in rw c.from_residual-in_err-right.ensures (instead_none i (right_done i.ready Inner inner_wants_right c.in_err-right.ensures))

pub loop-left-smaller-then-left_end-right : goal.loop-left-smaller-then-left_end-right
loop-left-smaller-then-left_end-right g c =
    let t = two g.P.Integer.width c.args.lists in
    omega (arith, fresh_less t.width t.starts (end_at t) t.middle _ c.in_ok-left.ensures refl _ c.fresh-kept.ensures)

pub loop-left-preserved-then-left_end-right : goal.loop-left-preserved-then-left_end-right
loop-left-preserved-then-left_end-right g c =
    let i = c.loop-left.invariant in
    instead i (drop_left (both i.ready c.in_ok-left.ensures c.in_ok-right.ensures c.key_at-left_end.ensures c.key_at-right_end.ensures) Inner inner_wants_right c.if-left_end-right.true c.fresh-kept.ensures)

pub loop-left-smaller : goal.loop-left-smaller
loop-left-smaller g c =
    let t = two g.P.Integer.width c.args.lists in
    omega (arith, fresh_less t.width t.starts (end_at t) (stop t) _ c.in_ok-right.ensures refl _ c.fresh-kept-then-right_end-left.ensures)

pub loop-left-preserved : goal.loop-left-preserved
loop-left-preserved g c =
    let i = c.loop-left.invariant in
    instead i (drop_right (both i.ready c.in_ok-left.ensures c.in_ok-right.ensures c.key_at-left_end.ensures c.key_at-right_end.ensures) Inner (λ b. refl) c.if-right_end-left.true c.fresh-kept-then-right_end-left.ensures)

pub returns-else-right_end-left : goal.returns-else-right_end-left
returns-else-right_end-left g c =
    let i = c.loop-left.invariant in
    instead_emitted i (overlap (both i.ready c.in_ok-left.ensures c.in_ok-right.ensures c.key_at-left_end.ensures c.key_at-right_end.ensures) c.if-right_end-left.false c.if-left_end-right.false c.min.ensures c.of_both.ensures) c.emit.ensures
