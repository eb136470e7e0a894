-- `form::judge` meets its contract. Assumes nothing.
use mathlib.Core.Path.{refl, sym, ◌∙◌}
use Rattle.std.proofs.lemmas.Result.{err_from_is_err_and}
use Rattle.rules.specs.Lists.{held}
use Rattle.form.proofs.Laws.{passes, stops, judge_parts, shape_long, judged_refused, judged}
use Rattle.form.proofs.judge.Goals as goal

pub returns-in_err-judge_shape : goal.returns-in_err-judge_shape
returns-in_err-judge_shape g c =
    let p = err_from_is_err_and c.from_residual.result c.from_residual.ensures.1 in
    rw (p.1, p.2) (judged_refused g.P.Integer.width _ (held c.args.lent) (stops _ (judge_parts g.P.Integer.width _ _) c.in_err-judge_shape.ensures))

pub judge_lists-requires : goal.judge_lists-requires
judge_lists-requires g c =
    shape_long _ _ c.in_ok-judge_shape.ensures refl

pub returns : goal.returns
returns g c =
    judged g.P.Integer.width _ (held c.args.lent) c.judge_lists.ensures (c.judge_lists.ensures.is ∙ sym (passes _ (judge_parts g.P.Integer.width _ _) c.in_ok-judge_shape.ensures))
