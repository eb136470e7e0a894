-- `form::judge_lists` meets its contract: what is found is what is still to be found, from each list on. Assumes nothing.
use mathlib.Core.Path.{refl, sym, ap, ◌∙◌}
use native.Mathlib.Omega.{arith}
use lib.ListN.{drop_of_length-le}
use Rattle.std.proofs.lemmas.Result.{err_from_is_err_and}
use Rattle.rules.specs.Lists.{held, total}
use Rattle.rules.proofs.Columns.{total_more}
use Rattle.form.proofs.Laws.{passes, stops, lists_next, lists_done, low_join, looked_refused}
use Rattle.form.proofs.judge_lists.Goals as goal

pub loop-count-init : goal.loop-count-init
loop-count-init g c = record { sum = omega arith; same = refl; low = λ k f l. absurd (omega arith) }

pub returns-in_err-judge_list : goal.returns-in_err-judge_list
returns-in_err-judge_list g c =
    let p = err_from_is_err_and c.from_residual.result c.from_residual.ensures.1 in
    rw (p.1, p.2) (looked_refused g.P.Integer.width (held c.args.lent) (stops _ (lists_next _ _ _ _ _ _ c.loop-count-test.true refl) c.in_err-judge_list.ensures.is ∙ sym c.loop-count.invariant.same))

pub loop-count-preserved : goal.loop-count-preserved
loop-count-preserved g c = record {
  sum = let h = c.loop-count-test.true in omega (arith, rw total_more at c.loop-count.invariant.sum);
  same = c.loop-count.invariant.same ∙ passes _ (lists_next _ _ _ _ _ _ c.loop-count-test.true refl) c.in_ok-judge_list.ensures.is;
  low = low_join g.P.Integer.width c.args.lent.ends.now c.loop-count.invariant.low (c.in_ok-judge_list.ensures.low refl);
}

pub returns : goal.returns
returns g c = record {
  is = lists_done _ _ _ _ _ c.loop-count-test.false ∙ sym c.loop-count.invariant.same;
  low = λ h k f l. c.loop-count.invariant.low k f (omega (arith, c.loop-count.invariant.sum, ap total (drop_of_length-le c.args.lent.counts.now c.loop-count-test.false)));
}
