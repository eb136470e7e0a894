-- `same` of instants meets its contract. Assumes nothing.
use Rattle.integer.proofs.Laws.{same_said}
use Rattle.integer.proofs.instant.I64Integer.same.Goals as goal

pub returns : goal.returns
returns c = same_said c.args.self c.args.other c.ranges.self.sfits c.ranges.other.sfits
