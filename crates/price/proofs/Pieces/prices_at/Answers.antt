-- `price::Pieces::prices_at` meets its contract: the rows passed are written. Assumes nothing.
use mathlib.Core.Path.{ap, ◌∙◌}
use native.Mathlib.Omega.{arith}
use mir.Syntax.{w64}
use Rattle.std.proofs.lemmas.List.{get_or_default}
use Rattle.integer.proofs.Laws.{back}
use Rattle.price.proofs.Batch.{pence_is, presence_is, written_more}
use Rattle.price.proofs.Pieces.prices_at.Goals as goal

pub loop-i-preserved : goal.loop-i-preserved
loop-i-preserved g c =
    let key = c.key.ensures.is ∙ ap g.P.Integer.width.key (c.index-points-i.is ∙ get_or_default c.args.points.now c.loop-i.i _ _ (omega arith)) in
    rw (back w64 _ c.unwrap_or.type_inv, c.unwrap_or.ensures, c.is_some.ensures, pence_is, presence_is)
    (written_more c.loop-i.invariant (omega arith) c.price_at_key-price.ensures key)
