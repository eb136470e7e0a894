-- `two_way_join::join_lists` meets its contract: it refuses, or its passes settle it. Assumes nothing.
use mathlib.Core.Path.{refl}
use native.Mathlib.Omega.{arith}
use Rattle.std.proofs.Common.{rules}
use Rattle.std.proofs.lemmas.Result.{err_from_is_err_and}
use Rattle.two_way_join.proofs.Passes.{refused, joins, joined, said}
use Rattle.two_way_join.proofs.join_lists.Goals as goal

pub returns-in_err-judge : goal.returns-in_err-judge
returns-in_err-judge g c =
    let p = err_from_is_err_and c.from_residual.result c.from_residual.ensures.1 in
    rw (p.1, p.2) (refused c.judge.ensures c.args.asked c.in_err-judge.was)

pub run-requires-clause-runnable : goal.run-requires-clause-runnable
run-requires-clause-runnable g c =
    joins c.judge.ensures c.in_ok-judge.was (λ f b n h s. search rules) _ refl (omega arith) (λ f b p q. search rules)

pub returns : goal.returns
returns g c =
    let e = joined c.judge.ensures c.in_ok-judge.was (λ f b n h s. search rules) _ refl (omega arith) c.run.ensures in
    said c.run.new.pass e.0 (e.1.2, e.1.3, e.1.4, e.1.5, e.1.6) (λ q. search (rules, q)) (λ q. search (rules, q)) (λ q. search (rules, q)) (λ q. search (rules, q)) (λ q. search (rules, q))
