-- `point` of instants meets its contract. Assumes nothing.
use Rattle.integer.proofs.Keys.{point_negative, point_nonnegative}
use Rattle.integer.proofs.instant.I64Integer.point.Goals as goal

pub overflow_add-result : goal.overflow_add-result
overflow_add-result c = (point_negative c.args.k c.if-k-lt-ZERO.true).0

pub returns-then-k-lt-ZERO : goal.returns-then-k-lt-ZERO
returns-then-k-lt-ZERO c = (point_negative c.args.k c.if-k-lt-ZERO.true).1

pub returns-else-k-lt-ZERO : goal.returns-else-k-lt-ZERO
returns-else-k-lt-ZERO c = point_nonnegative c.args.k c.if-k-lt-ZERO.false c.requires
