-- `pop` meets its contract. Assumes nothing.
use Rattle.std.proofs.Common.{arith}
use Rattle.heap.proofs.Laws.{heap_of}
use Rattle.heap.proofs.Moves.{popped}
use Rattle.heap.proofs.Heap.pop.Goals as goal

pub invariant_of-self : goal.invariant_of-self
invariant_of-self c = let p = (popped (heap_of c.args.self.now) c.requires (rw c.get-last.ensures at c.sift.ensures)).heap in record { small = p.small; ordered = p.ordered }

pub returns : goal.returns
returns c = record { shorter = omega arith; kept = (popped (heap_of c.args.self.now) c.requires (rw c.get-last.ensures at c.sift.ensures)).kept }
