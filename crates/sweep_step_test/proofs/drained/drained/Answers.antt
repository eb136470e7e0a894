-- `drained` is safe and ends. Assumes nothing.
use Rattle.multiway_sweep.proofs.Begun.{begun}
use Rattle.sweep_step.proofs.Empties.{goes_on}
use Rattle.sweep_step_test.proofs.drained.drained.Goals as goal

pub loop-place-init : goal.loop-place-init
loop-place-init g c = (_, begun c.requires.formed c.new-sweep.ensures)

pub loop-place-preserved : goal.loop-place-preserved
loop-place-preserved g c = goes_on _ _ c.loop-place.sweep (record { taken = c.advance.result; sweep = c.advance.new.sweep }) c.loop-place.invariant c.advance.ensures
