-- `step` meets its contract: the end on top is taken where it comes first, else the start on top. Assumes nothing.
use Rattle.multiway_sweep.specs.Steps.{whole}
use Rattle.multiway_sweep.proofs.Steps.{end_taken, nothing_left, no_start, due_alone, due_before}
use Rattle.multiway_sweep.proofs.SweepMut.step.Goals as goal
use Rattle.multiway_sweep.proofs.SweepMut.step.Goals.{in-Some+else-end_first, in_default}

pub returns-then-end_first-clause-next : goal.returns-then-end_first-clause-next
returns-then-end_first-clause-next g c rest s = end_taken s _ c.top-in-Some.ensures c.in-Some.ensures c.if-end_first.ensures c.pop.ensures

pub returns-in_err-start-clause-next : goal.returns-in_err-start-clause-next
returns-in_err-start-clause-next g c rest s =
    rw c.from_residual.ensures (
      tt,
      nothing_left s c.in_err-start.ensures (elim c.match-top.branch [
        | in-Some+else-end_first w ↦ absurd (no_start (whole c.args.self.now) _ _ w.top-in-Some.ensures c.in_err-start.ensures w.if-end_first.ensures)
        | in_default w ↦ w.in_default.ensures
      ]),
    )

pub begin-requires : goal.begin-requires
begin-requires g c =
    elim c.match-top.branch [
      | in-Some+else-end_first w ↦ due_before c.requires.1 _ _ _ w.top-in-Some.ensures c.in_ok-start.ensures w.in-Some.ensures w.if-end_first.ensures
      | in_default w ↦ due_alone c.requires.1 c.in_ok-start.ensures w.in_default.ensures
    ]
