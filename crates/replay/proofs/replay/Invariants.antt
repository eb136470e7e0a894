-- `replay` ends, and counts no more files than the bytes it has passed. Assumes nothing.
use Rattle.std.proofs.Common.{length, ◌+◌, ◌≤◌}
use Rattle.replay.proofs.replay.Given as goal

abbrev pub invariant-loop-turn : goal.invariant-loop-turn
invariant-loop-turn l = l.agree + l.differ + length l.rest ≤ length l.list

abbrev pub decreases-loop-turn : goal.decreases-loop-turn
decreases-loop-turn l = length l.rest
