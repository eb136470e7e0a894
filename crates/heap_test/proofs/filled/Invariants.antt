use Rattle.std.proofs.Common.{◌≡◌}
use Rattle.heap_test.proofs.filled.Given as goal

abbrev pub invariant-loop-i : goal.invariant-loop-i
invariant-loop-i l = l.heap.len ≡ l.i
