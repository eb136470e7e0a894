-- `multiway_merge::merge_lists` meets its contract: it refuses, says what it says of no lists, or its passes settle it. Assumes nothing.
use Prim.Native.Nat.{min}
use mathlib.Core.Path.{refl, sym, ap, ◌∙◌}
use borrow.Author.Tests.{eqb-true, eqb-false}
use native.Mathlib.Omega.{arith}
use Rattle.std.proofs.Common.{rules}
use Rattle.std.proofs.lemmas.Result.{err_from_is_err_and}
use Rattle.multiway_merge.proofs.Outcomes.{refused, merged_none, merges, merged, said}
use Rattle.multiway_merge.proofs.merge_lists.Goals as goal

-- something is refused
pub returns-in_err-judge : goal.returns-in_err-judge
returns-in_err-judge g c =
    let p = err_from_is_err_and c.from_residual.result c.from_residual.ensures.1 in
    rw (p.1, p.2) (refused _ c.kind_of.ensures c.in_err-judge.ensures)

-- there are no lists
pub returns-then-is_empty : goal.returns-then-is_empty
returns-then-is_empty g c =
    let e = merged_none _ c.kind_of.ensures c.in_ok-judge.ensures (eqb-true _ _ (sym c.is_empty.ensures ∙ c.if-is_empty.true)) _ c.of_none.ensures.leaves in
    let s = c.of_none.ensures.same in
    said c.of_none.new.out e (s.start, s.end, s.value) (λ q. search (rules, q)) (λ q. search (rules, q)) (λ q. search (rules, q))

-- the passes can be run
pub run-requires-clause-runnable : goal.run-requires-clause-runnable
run-requires-clause-runnable g c =
    merges _ c.kind_of.ensures c.in_ok-judge.ensures (omega (arith, eqb-false _ _ (sym c.is_empty.ensures ∙ c.if-is_empty.false))) (λ f b n h s. search rules) _ refl refl (c.min-space.ensures ∙ ap (min _) c.min.ensures) (λ f b p. search rules)

-- they settle it
pub returns : goal.returns
returns g c =
    let e = merged _ c.kind_of.ensures c.in_ok-judge.ensures (omega (arith, eqb-false _ _ (sym c.is_empty.ensures ∙ c.if-is_empty.false))) (λ f b n h s. search rules) _ refl refl (c.min-space.ensures ∙ ap (min _) c.min.ensures) c.run.ensures in
    let g = c.run.new.pass in
    said (record { start = g.0; end = g.1; value = g.2 }) e.0 (e.1.0, e.1.1, e.1.2) (λ q. search (rules, q)) (λ q. search (rules, q)) (λ q. search (rules, q))
