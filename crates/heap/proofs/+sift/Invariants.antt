use Prim.Native.Nat.{◌-◌}
use Rattle.heap.proofs.+sift.Given as goal

abbrev pub decreases-sift : goal.decreases-sift
decreases-sift g l = 16 - l.place
