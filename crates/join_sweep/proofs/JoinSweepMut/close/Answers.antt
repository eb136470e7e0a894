-- `JoinSweepMut::close` meets its contract: it takes the ends of the last stretch. Assumes nothing.
use mathlib.Core.Path.{refl}
use native.Mathlib.Omega.{arith}
use Rattle.join_sweep.proofs.Lent.{same_first, same_step}
use Rattle.join_sweep.proofs.Turns.{closed, ended_few, ended_past, ended_on}
use Rattle.join_sweep.proofs.JoinSweepMut.close.Goals as goal

pub loop-list-init : goal.loop-list-init
loop-list-init g c = (λ ls s. s, refl, same_first)

-- the list that ends is one of sixteen, and something is active
pub bounds-self-list : goal.bounds-self-list
bounds-self-list g c = (ended_few (c.loop-list.invariant.0 _ c.requires.1) c.ending.ensures c.in-Some.is).0

pub overflow_sub-self : goal.overflow_sub-self
overflow_sub-self g c = (ended_few (c.loop-list.invariant.0 _ c.requires.1) c.ending.ensures c.in-Some.is).1

-- the sweep stands past that end
pub step-self-requires : goal.step-self-requires
step-self-requires g c = ended_past (c.loop-list.invariant.0 _ c.requires.1) c.ending.ensures c.in-Some.is

-- one list fewer is active
pub loop-list-smaller : goal.loop-list-smaller
loop-list-smaller g c = omega (arith, (ended_few (c.loop-list.invariant.0 _ c.requires.1) c.ending.ensures c.in-Some.is).1)

-- the end is taken
pub loop-list-preserved : goal.loop-list-preserved
loop-list-preserved g c = (λ ls s. ended_on (c.loop-list.invariant.0 ls s) c.ending.ensures c.in-Some.is refl c.step-self.ensures.next, c.loop-list.invariant.1, same_step c.loop-list.invariant.2 c.step-self.ensures.same refl refl)

-- they are all taken
pub returns-clause-closed : goal.returns-clause-closed
returns-clause-closed g c ls s = closed (c.loop-list.invariant.0 ls s) c.ending.ensures c.in_default.is
