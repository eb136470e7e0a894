-- The event listing and the two-way operations as whole outcomes: from what is lent and the columns before, to the answer and the columns after. Assumes nothing.
use Rattle.std.specs.Prelude.{pos, length}
use Rattle.std.proofs.Math.ListN.{get_or}
use Rattle.rules.specs.Lists.{Width, Lent, lists, tracks}
use Rattle.rules.specs.Answer.{Outcome, judge, settle}
use Rattle.rules.specs.Sweep.{events}
use Rattle.rules.specs.TwoWay.{paired}
use Rattle.rules.specs.Paired as paired_columns
use Rattle.rules.specs.Listed as listed_columns
use Rattle.rules.specs.Paired.{Paired}
use Rattle.rules.specs.Listed.{Listed}
use Rattle.rules.specs.declared.Pairing.{Pairing}
use Rattle.rules.specs.declared.Kind.TheVariants.{Listing, TwoWay}

module _ {P : Type 0} (w : Width P) where
  unfoldable pub pairing : Pairing → Lent P → Paired P → Outcome (Paired P)
  unfolding judge paired
  pairing o l c =
      let xs = paired o w.points (tracks w l) in
      settle (judge w TwoWay l) (length xs) (paired_columns.room c) c (paired_columns.lay w (λ i. get_or l.values i (pos 0)) 0 xs c)

  -- the event listing, in which an event counts as a piece
  unfoldable pub listing : Lent P → Listed P → Outcome (Listed P)
  unfolding judge events
  listing l c =
      let es = events (lists w l) in
      settle (judge w Listing l) (length es) (listed_columns.room c) c (listed_columns.lay w 0 es c)
