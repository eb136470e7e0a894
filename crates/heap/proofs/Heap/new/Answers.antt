-- `new` meets its contract. Assumes nothing.
use Rattle.heap.proofs.Laws.{heap_none}
use Rattle.heap.proofs.Heap.new.Goals as goal

pub invariant_of-result-clause-ordered : goal.invariant_of-result-clause-ordered
invariant_of-result-clause-ordered c = (heap_none {f = _}).ordered
