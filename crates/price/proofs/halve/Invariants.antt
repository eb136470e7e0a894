-- `price::halve` meets its contract: where halving comes to from each turn on is where it comes to. Assumes nothing.
use Rattle.rules.specs.Lists.{keys}
use Rattle.price.proofs.Halving.{Halved}
use Rattle.price.proofs.halve.Given as goal

abbrev pub invariant-loop-size : goal.invariant-loop-size
invariant-loop-size g l = Halved (keys g.P.Integer.width l.start) l.point l.most l.among l.base l.size

abbrev pub decreases-loop-size : goal.decreases-loop-size
decreases-loop-size g l = l.size
