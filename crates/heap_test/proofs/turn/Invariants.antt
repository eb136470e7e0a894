use Rattle.std.proofs.Common.{◌≡◌}
use Rattle.heap_test.proofs.turn.Given as goal

abbrev pub invariant-loop-i : goal.invariant-loop-i
invariant-loop-i l = l.heap.len ≡ 16
