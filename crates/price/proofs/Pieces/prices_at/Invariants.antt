-- `price::Pieces::prices_at` meets its contract: the rows passed are written. Assumes nothing.
use Rattle.price.specs.Reading.{held}
use Rattle.price.proofs.Batch.{Written}
use Rattle.price.proofs.Pieces.prices_at.Given as goal

abbrev pub invariant-loop-i : goal.invariant-loop-i
invariant-loop-i g l =
    Written g.P.Integer.width
    (held l.self)
    l.pieces
    l.points
    (record { value = l.initial.out_value; presence = l.initial.out_presence })
    l.i
    (record { value = l.out_value; presence = l.out_presence })
