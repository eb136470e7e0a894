use Rattle.std.proofs.Common.{◌+◌, ◌≡◌}
use Rattle.heap_test.proofs.drain.Given as goal

abbrev pub invariant-loop-i : goal.invariant-loop-i
invariant-loop-i l = l.heap.len + l.i ≡ 16
