-- `price::count` meets its contract: those passed that have begun are counted. Assumes nothing.
use Prim.Native.Nat.{◌≤◌}
use mathlib.Core.Path.{◌≡◌}
use Rattle.rules.specs.Lists.{keys}
use Rattle.price.specs.Reading.{count}
use Rattle.price.proofs.count.Given as goal

abbrev pub invariant-loop-i : goal.invariant-loop-i
invariant-loop-i g l = record {
  is : l.counted ≡ count (keys g.P.Integer.width l.start) l.point l.base l.i;
  few : l.counted ≤ l.i;
}
