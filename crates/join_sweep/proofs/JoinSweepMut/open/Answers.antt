-- `JoinSweepMut::open` meets its contract: it takes the starts at the point where the stretch begins. Assumes nothing.
use mathlib.Core.Path.{refl}
use mathlib.Core.Logic.{inl}
use native.Mathlib.Omega.{arith}
use borrow.Author.Rules.{rules}
use Rattle.join_sweep.proofs.Lent.{same_first, same_step}
use Rattle.join_sweep.proofs.Turns.{opened, started_few, started_past, started_on}
use Rattle.join_sweep.proofs.JoinSweepMut.open.Goals as goal

pub loop-list-init : goal.loop-list-init
loop-list-init g c = (λ ls s. s, c.requires.busy, same_first)

-- the list that starts is one of sixteen, which are not all active
pub offset_bounds-self-list : goal.offset_bounds-self-list
offset_bounds-self-list g c = omega (arith, started_few _ (c.loop-list.invariant.0 _ c.requires.stands.1) c.starting.ensures c.in-Some.is)

pub bounds-self-list : goal.bounds-self-list
bounds-self-list g c = omega (arith, started_few _ (c.loop-list.invariant.0 _ c.requires.stands.1) c.starting.ensures c.in-Some.is)

pub bounds-self-list-in-Some : goal.bounds-self-list-in-Some
bounds-self-list-in-Some g c = omega (arith, started_few _ (c.loop-list.invariant.0 _ c.requires.stands.1) c.starting.ensures c.in-Some.is)

pub overflow_add-self : goal.overflow_add-self
overflow_add-self g c = omega (arith, started_few _ (c.loop-list.invariant.0 _ c.requires.stands.1) c.starting.ensures c.in-Some.is)

-- the sweep stands past that start
pub step-self-requires : goal.step-self-requires
step-self-requires g c = started_past _ (c.loop-list.invariant.0 _ c.requires.stands.1) c.starting.ensures c.in-Some.is

-- one list more is active
pub loop-list-smaller : goal.loop-list-smaller
loop-list-smaller g c = omega (arith, started_few _ (c.loop-list.invariant.0 _ c.requires.stands.1) c.starting.ensures c.in-Some.is)

-- the start is taken
pub loop-list-preserved : goal.loop-list-preserved
loop-list-preserved g c = (λ ls s. started_on _ (c.loop-list.invariant.0 ls s) c.starting.ensures c.in-Some.is (search rules) refl c.step-self.ensures.next, inl (omega arith), same_step c.loop-list.invariant.2 c.step-self.ensures.same refl refl)

-- they are all taken
pub returns-clause-opened : goal.returns-clause-opened
returns-clause-opened g c ls s = opened _ (c.loop-list.invariant.0 ls s) c.starting.ensures c.loop-list.invariant.1 c.in_default.is
