use Prim.Native.Nat.{◌+◌}
use lib.ListN.{length}
use Rattle.rules.specs.declared.Pairing.TheVariants.{Inner}
use Rattle.two_way.specs.Sides.{two, view, left_of, right_of}
use Rattle.two_way.proofs.Next.{Instead}
use Rattle.two_way.proofs.inner_join.next_piece.Given as goal

abbrev pub invariant-loop-left : goal.invariant-loop-left
invariant-loop-left g l = let t = two g.P.Integer.width l.lists in Instead t Inner (view t l.initial.kept) (view t l.kept)

abbrev pub decreases-loop-left : goal.decreases-loop-left
decreases-loop-left g l = let t = two g.P.Integer.width l.lists in length (left_of t (view t l.kept)) + length (right_of t (view t l.kept))
