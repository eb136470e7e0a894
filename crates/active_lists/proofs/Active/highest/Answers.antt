-- `Active::highest` meets its contract. The active lists stay; the measure is the heap's length. Assumes nothing.
use mathlib.Core.Path.{sym, ◌∙◌}
use native.Mathlib.Omega.{arith}
use Rattle.active_lists.proofs.Keeps.{same_mark, other_mark, short, top_small, top_highest, leaves, same, none_active}
use Rattle.active_lists.proofs.Active.highest.Goals as goal

pub bounds-self-inside-top : goal.bounds-self-inside-top
bounds-self-inside-top c = top_small c.loop-self.invariant.keeps c.loop-self-test.true

pub bounds-self-inside-top-in-loop-self : goal.bounds-self-inside-top-in-loop-self
bounds-self-inside-top-in-loop-self c = top_small c.loop-self.invariant.keeps c.loop-self-test.true

pub bounds-self-inside-self-inside : goal.bounds-self-inside-self-inside
bounds-self-inside-self-inside c = omega (arith, short c.loop-self.invariant.keeps)

pub sift-requires : goal.sift-requires
sift-requires c = (omega arith, omega (arith, short c.loop-self.invariant.keeps))

pub returns-then-eq-clause-highest : goal.returns-then-eq-clause-highest
returns-then-eq-clause-highest c =
    let i = c.loop-self.invariant in
    rw i.same at (top_highest i.keeps c.loop-self-test.true (same_mark (sym c.eq.ensures ∙ c.if-eq.true)))

pub loop-self-preserved : goal.loop-self-preserved
loop-self-preserved c =
    let i = c.loop-self.invariant in
    let ended = other_mark (sym c.eq.ensures ∙ c.if-eq.false) in
    record { keeps = leaves i.keeps c.loop-self-test.true c.sift.new.places ended c.sift.ensures; same = same i.keeps c.loop-self-test.true ended ∙ i.same }

pub returns-clause-highest : goal.returns-clause-highest
returns-clause-highest c = let i = c.loop-self.invariant in rw i.same at (none_active i.keeps c.loop-self-test.false)
