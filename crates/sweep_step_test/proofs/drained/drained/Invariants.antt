use Rattle.rules.specs.Lists.{held}
use Rattle.multiway_sweep.specs.Steps.{reads}
use Rattle.sweep_step.specs.Lent.{Goes}
use Rattle.sweep_step_test.proofs.drained.drained.Given as goal

abbrev pub invariant-loop-place : goal.invariant-loop-place
invariant-loop-place g l = let w = g.P.Integer.width in Goes w (reads (held l.lent)) l.sweep
