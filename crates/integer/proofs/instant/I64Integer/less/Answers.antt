-- `less` of instants meets its contract. Assumes nothing.
use Rattle.integer.proofs.Laws.{less_said}
use Rattle.integer.proofs.instant.I64Integer.less.Goals as goal

pub returns : goal.returns
returns c = less_said c.args.self c.args.other c.ranges.self.sfits c.ranges.other.sfits
