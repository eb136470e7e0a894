use Rattle.std.proofs.Common.{length}
use Rattle.rules.specs.Lists.{keys}
use Rattle.multiway_sweep.proofs.Filled.{Laid}
use Rattle.multiway_sweep.proofs.fill.Given as goal

abbrev pub invariant-loop-k : goal.invariant-loop-k
invariant-loop-k g l =
    let w = g.P.Integer.width in Laid (keys w l.lent.starts.now) l.lent.counts.now (length l.lent.starts.now) l.courses l.starts l.k l.from
