-- `Active::idle` meets its contract. Assumes nothing.
use Rattle.active_lists.proofs.Keeps.{keeps_idle}
use Rattle.active_lists.proofs.Active.idle.Goals as goal

pub invariant_of-result : goal.invariant_of-result
invariant_of-result c = keeps_idle
