-- `replace_top` meets its contract. Assumes nothing.
use Rattle.std.proofs.Common.{refl}
use Rattle.heap.proofs.Laws.{heap_of}
use Rattle.heap.proofs.Moves.{topped}
use Rattle.heap.proofs.Heap.replace_top.Goals as goal

pub invariant_of-self : goal.invariant_of-self
invariant_of-self c = let p = (topped (heap_of c.args.self.now) c.requires c.sift.ensures).heap in record { small = p.small; ordered = p.ordered }

pub returns : goal.returns
returns c = record { as_long = refl; kept = (topped (heap_of c.args.self.now) c.requires c.sift.ensures).kept }
