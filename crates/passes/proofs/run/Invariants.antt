use Prim.Native.Nat.{◌*◌, ◌-◌}
use mathlib.Core.Bool.{cond}
use Rattle.passes.proofs.Runs.{Before}
use Rattle.passes.proofs.run.Given as goal

abbrev pub invariant-loop-answer : goal.invariant-loop-answer
invariant-loop-answer g l = Before (goal.F-step g) (2 * l.ranges - 1) l.room l.initial.pass l.write l.pass

abbrev pub decreases-loop-answer : goal.decreases-loop-answer
decreases-loop-answer g l = cond l.write 0 1
