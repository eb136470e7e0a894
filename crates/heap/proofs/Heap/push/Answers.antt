-- `push` meets its contract. Assumes nothing.
use Rattle.std.proofs.Common.{refl}
use Rattle.heap.proofs.Laws.{heap_of}
use Rattle.heap.proofs.Moves.{pushed}
use Rattle.heap.proofs.Heap.push.Goals as goal

pub invariant_of-self : goal.invariant_of-self
invariant_of-self c = let p = (pushed (heap_of c.args.self.now) c.requires c.climb.ensures).heap in record { small = p.small; ordered = p.ordered }

pub returns : goal.returns
returns c = record { longer = refl; kept = (pushed (heap_of c.args.self.now) c.requires c.climb.ensures).kept }
