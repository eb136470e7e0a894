-- `select_pass::Selection::apply` meets its contract. Assumes nothing.
use Rattle.select_pass.proofs.Carried.{end_taken}
use Rattle.select_pass.proofs.Selection.apply.Goals as goal
use Rattle.select_pass.proofs.Selection.apply.Goals.{then-how_many-at, else-how_many-at}

pub returns-after-how_many-at : goal.returns-after-how_many-at
returns-after-how_many-at c act k f =
    let g = rw c.in-End.is at f in
    elim c.if-how_many-at.branch [
      | then-how_many-at w ↦ rw c.in-End.is (end_taken k g.0 c.deactivate.ensures c.in-End.at c.args.greatest c.how_many.ensures w.if-how_many-at.true w.self-is)
      | else-how_many-at w ↦ rw c.in-End.is (end_taken k g.0 c.deactivate.ensures c.in-End.at c.args.greatest c.how_many.ensures w.if-how_many-at.false w.self-is)
    ]
