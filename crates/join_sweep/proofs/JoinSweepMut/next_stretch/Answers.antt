-- `JoinSweepMut::next_stretch` meets its contract. Assumes nothing.
use Rattle.join_sweep.proofs.Lent.{same_then, same_state}
use Rattle.join_sweep.proofs.First.{begins_at, over, ahead, stretch}
use Rattle.join_sweep.proofs.JoinSweepMut.next_stretch.Goals as goal

-- no stretch is left
pub returns-in_err-start-clause-finds : goal.returns-in_err-start-clause-finds
returns-in_err-start-clause-finds g c ls s = rw c.from_residual.ensures (rw c.close.ensures.end at (over _ (c.close.ensures.closed ls s) c.in_err-start.ensures c.greatest_key.ensures))

-- the stretch begins, and no start at its point is taken yet
pub open-requires-clause-stands : goal.open-requires-clause-stands
open-requires-clause-stands g c = (_, (begins_at _ (c.close.ensures.closed _ c.requires.stands.1) c.in_ok-start.ensures).joining)

-- an event is held, since something is active
pub reach-end-requires : goal.reach-end-requires
reach-end-requires g c = ahead (c.open.ensures.opened _ (begins_at _ (c.close.ensures.closed _ c.requires.stands.1) c.in_ok-start.ensures).joining)

-- the stretch runs up to it
pub returns-clause-finds : goal.returns-clause-finds
returns-clause-finds g c ls s =
    let b = begins_at _ (c.close.ensures.closed ls s) c.in_ok-start.ensures in
    rw c.close.ensures.end at (stretch (c.open.ensures.opened ls b.joining) _ b.later b.gap c.reach-end.ensures)

pub returns-clause-same : goal.returns-clause-same
returns-clause-same g c = same_state (same_then c.close.ensures.same c.open.ensures.same) _
