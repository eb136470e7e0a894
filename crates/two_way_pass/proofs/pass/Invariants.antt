use Prim.Native.Nat.{◌-◌}
use lib.ListN.{length}
use Rattle.rules.specs.Lists.{held}
use Rattle.two_way_pass.specs.Pairs.{pairs, first}
use Rattle.two_way_pass.specs.Columns.{behind, Same}
use Rattle.two_way_pass.proofs.Laying.{Going}
use Rattle.two_way_pass.proofs.pass.Given as goal

abbrev pub invariant-loop-pair : goal.invariant-loop-pair
invariant-loop-pair g l =
    Going g.P.Integer.width l.asked (held l.lent) (first l.lent.counts.now) l.write 0 (behind l.initial.columns) (behind l.columns) l.cursor l.count × Same l.initial.columns l.columns

abbrev pub decreases-loop-pair : goal.decreases-loop-pair
decreases-loop-pair g l = length (pairs g.P.Integer.width l.asked (held l.lent)) - l.count
