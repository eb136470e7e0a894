-- `add_one` of instants meets its contract. Assumes nothing.
use mir.Syntax.{w64}
use Rattle.integer.proofs.Laws.{back, added}
use Rattle.integer.proofs.instant.I64Integer.add_one.Goals as goal

pub overflow_add-result : goal.overflow_add-result
overflow_add-result c = rw (back w64 c.args.self c.ranges.self.sfits) (added c.args.self c.ranges.self.sfits c.requires).0

pub returns : goal.returns
returns c = rw (back w64 c.args.self c.ranges.self.sfits) (added c.args.self c.ranges.self.sfits c.requires).1
