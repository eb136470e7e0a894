-- `passes::run` meets its contract: a pass concludes, the second where the first does not. Assumes nothing.
use mathlib.Core.Path.{ap}
use lib.Dec.{leb}
use native.Mathlib.Omega.{arith}
use Rattle.passes.proofs.Runs.{none_made, may_run, ran, runs_on}
use Rattle.passes.proofs.run.Goals as goal

pub loop-answer-init : goal.loop-answer-init
loop-answer-init g c = none_made (ap (λ n. leb n c.args.room) c.most.ensures)

pub pass-count-requires : goal.pass-count-requires
pass-count-requires g c = may_run c.requires.runnable c.loop-answer.invariant

pub returns-in-Some : goal.returns-in-Some
returns-in-Some g c = ran c.loop-answer.invariant c.pass-count.ensures c.conclude.ensures c.in-Some.is

pub loop-answer-smaller : goal.loop-answer-smaller
loop-answer-smaller g c = rw ((runs_on c.loop-answer.invariant c.pass-count.ensures c.conclude.ensures c.in_default.is).0) (omega arith)

pub loop-answer-preserved : goal.loop-answer-preserved
loop-answer-preserved g c = (runs_on c.loop-answer.invariant c.pass-count.ensures c.conclude.ensures c.in_default.is).1
