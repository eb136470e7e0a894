-- `key` of instants meets its contract. Assumes nothing.
use Rattle.integer.proofs.Keys.{key_negative, key_nonnegative}
use Rattle.integer.proofs.instant.I64Integer.key.Goals as goal

pub overflow_sub-result : goal.overflow_sub-result
overflow_sub-result c = (key_negative c.args.self c.ranges.self.sfits c.if-self-lt0.true).0

pub overflow_cast-result : goal.overflow_cast-result
overflow_cast-result c = (key_negative c.args.self c.ranges.self.sfits c.if-self-lt0.true).1

pub overflow_cast-result-else-self-lt0 : goal.overflow_cast-result-else-self-lt0
overflow_cast-result-else-self-lt0 c = (key_nonnegative c.args.self c.ranges.self.sfits c.if-self-lt0.false).0

pub overflow_add-result : goal.overflow_add-result
overflow_add-result c = (key_nonnegative c.args.self c.ranges.self.sfits c.if-self-lt0.false).1

pub returns-then-self-lt0-clause-is : goal.returns-then-self-lt0-clause-is
returns-then-self-lt0-clause-is c = (key_negative c.args.self c.ranges.self.sfits c.if-self-lt0.true).2

pub returns-else-self-lt0-clause-is : goal.returns-else-self-lt0-clause-is
returns-else-self-lt0-clause-is c = (key_nonnegative c.args.self c.ranges.self.sfits c.if-self-lt0.false).2
