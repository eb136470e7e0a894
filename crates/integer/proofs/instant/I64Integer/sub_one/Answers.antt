-- `sub_one` of instants meets its contract. Assumes nothing.
use mir.Syntax.{w64}
use Rattle.integer.proofs.Laws.{back, subtracted}
use Rattle.integer.proofs.instant.I64Integer.sub_one.Goals as goal

pub overflow_sub-result : goal.overflow_sub-result
overflow_sub-result c = rw (back w64 c.args.self c.ranges.self.sfits) (subtracted c.args.self c.ranges.self.sfits c.requires).0

pub returns : goal.returns
returns c = rw (back w64 c.args.self c.ranges.self.sfits) (subtracted c.args.self c.ranges.self.sfits c.requires).1
