-- `form::judge_list` meets its contract: what is found is what is still to be found, from each place on. Assumes nothing.
use mathlib.Core.Path.{refl, sym, ◌∙◌}
use native.Mathlib.Omega.{arith}
use Rattle.std.proofs.lemmas.Result.{err_from_is_err_and}
use Rattle.rules.specs.Lists.{held}
use Rattle.form.proofs.Laws.{passes, stops, list_next, list_done, low_more, looked_refused}
use Rattle.form.proofs.judge_list.Goals as goal

pub loop-i-init : goal.loop-i-init
loop-i-init g c = record { same = refl; low = λ k f l. absurd (omega arith) }

pub returns-in_err-judge_range : goal.returns-in_err-judge_range
returns-in_err-judge_range g c =
    let p = err_from_is_err_and c.from_residual.result c.from_residual.ensures.1 in
    rw (p.1, p.2) (looked_refused g.P.Integer.width (held c.args.lent) (stops _ (list_next _ _ _ _ _ c.loop-i-test.true c.key_at.ensures.is c.key_at-in-loop-i.ensures.is) c.in_err-judge_range.ensures ∙ sym c.loop-i.invariant.same))

pub loop-i-preserved : goal.loop-i-preserved
loop-i-preserved g c = record {
  same = c.loop-i.invariant.same ∙ passes _ (list_next _ _ _ _ _ c.loop-i-test.true c.key_at.ensures.is c.key_at-in-loop-i.ensures.is) c.in_ok-judge_range.ensures;
  low = low_more g.P.Integer.width c.args.lent.ends.now c.loop-i.invariant.low c.key_at-in-loop-i.ensures.is c.key_at-in-loop-i.ensures.below;
}

pub returns : goal.returns
returns g c = record {
  is = list_done _ _ _ _ _ c.loop-i-test.false ∙ sym c.loop-i.invariant.same;
  low = λ h k f l. c.loop-i.invariant.low k f (omega arith);
}
