use mathlib.Core.Path.{◌≡◌}
use lib.ListN.{length}
use Rattle.rules.specs.declared.Pairing.TheVariants.{Left}
use Rattle.two_way.specs.Sides.{two, view, right_of}
use Rattle.two_way.proofs.Next.{Instead}
use Rattle.two_way.proofs.left_join.next_piece.Given as goal

abbrev pub invariant-loop-right : goal.invariant-loop-right
invariant-loop-right g l =
    let t = two g.P.Integer.width l.lists in
    Instead t Left (view t l.initial.kept) (view t l.kept) × (l.kept.left ≡ l.initial.kept.left)

abbrev pub decreases-loop-right : goal.decreases-loop-right
decreases-loop-right g l = let t = two g.P.Integer.width l.lists in length (right_of t (view t l.kept))
