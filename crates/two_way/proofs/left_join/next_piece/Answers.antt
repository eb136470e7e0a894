-- `two_way::left_join::next_piece` meets its contract: a right range that is skipped changes nothing, and each other way takes off the piece that comes next. Assumes nothing.
use mathlib.Core.Path.{refl, sym, ap, ◌∙◌}
use Rattle.rules.specs.declared.Pairing.TheVariants.{Left}
use Rattle.two_way.specs.Sides.{here, two, end_at, stop}
use Rattle.two_way.proofs.Sides.{fresh_less}
use Rattle.two_way.proofs.Next.{both, stay, instead, instead_emitted, drop_right, left_prefix, left_alone, left_covered, left_done}
use Rattle.two_way.proofs.left_join.next_piece.Goals as goal

pub returns-in_err-left : goal.returns-in_err-left
returns-in_err-left g c =
    rw c.from_residual.ensures (left_done c.requires Left (λ b. refl) c.in_err-left.ensures)

pub loop-right-init : goal.loop-right-init
loop-right-init g c = (stay c.requires Left, refl)

pub loop-right-smaller : goal.loop-right-smaller
loop-right-smaller g c =
    let t = two g.P.Integer.width c.args.lists in
    fresh_less t.width t.starts (end_at t) (stop t) _ c.in-Some.ensures refl _ c.fresh-kept.ensures

pub loop-right-preserved : goal.loop-right-preserved
loop-right-preserved g c =
    let i = c.loop-right.invariant in
    let b = both i.0.ready (c.in_ok-left.ensures ∙ ap (here c.args.lists.middle) (sym i.1)) c.in-Some.ensures c.key_at-left_end.ensures c.key_at-right_end.ensures in
    (instead i.0 (drop_right b Left (λ b. refl) c.if-right_end-left.true c.fresh-kept.ensures), i.1)

pub returns-then-left-right : goal.returns-then-left-right
returns-then-left-right g c =
    let i = c.loop-right.invariant in
    let b = both i.0.ready (c.in_ok-left.ensures ∙ ap (here c.args.lists.middle) (sym i.1)) c.in-Some.ensures c.key_at-left_end.ensures c.key_at-right_end.ensures in
    instead_emitted i.0 (left_prefix b Left refl c.if-left-right.true c.min.ensures c.of_left.ensures) c.emit.ensures

pub returns-in-Some : goal.returns-in-Some
returns-in-Some g c =
    let i = c.loop-right.invariant in
    let b = both i.0.ready (c.in_ok-left.ensures ∙ ap (here c.args.lists.middle) (sym i.1)) c.in-Some.ensures c.key_at-left_end.ensures c.key_at-right_end.ensures in
    instead_emitted i.0 (left_covered b c.if-left-right.false c.if-right_end-left.false c.min-in-Some.ensures c.of_both.ensures) c.emit-in-Some.ensures

pub returns : goal.returns
returns g c =
    let i = c.loop-right.invariant in
    instead_emitted i.0 (left_alone i.0.ready Left refl (c.in_ok-left.ensures ∙ ap (here c.args.lists.middle) (sym i.1)) c.in_default.ensures c.key_at-left_end.ensures c.of_left-2.ensures) c.emit-2.ensures
