-- `begin` meets its contract: its list has another range, or none. Assumes nothing.
use borrow.Author.Rules.{rules}
use Rattle.multiway_sweep.proofs.Steps.{start_taken_more, start_taken_last}
use Rattle.multiway_sweep.proofs.SweepMut.begin.Goals as goal

pub returns-then-after-self-clause-next : goal.returns-then-after-self-clause-next
returns-then-after-self-clause-next g c =
    start_taken_more c.requires c.key_at-end.ensures.is (search rules) _ _ c.push.ensures c.key_at-key.ensures.is c.if-after-self.true c.replace_top.ensures

pub returns-else-after-self-clause-next : goal.returns-else-after-self-clause-next
returns-else-after-self-clause-next g c =
    start_taken_last c.requires c.key_at-end.ensures.is (search rules) _ _ c.push.ensures c.if-after-self.false c.pop.ensures
