-- All pieces of a two-way join of the lists that are lent. Assumes nothing.
use Rattle.std.specs.Prelude.{ℕ, List, ℤ, pos, get_or}
use Rattle.rules.specs.Piece.{Piece}
use Rattle.rules.specs.Lists.{Width, Lent, tracks}
use Rattle.rules.specs.TwoWay.{Match, paired}
use Rattle.rules.specs.declared.Pairing.{Pairing}
use Rattle.rules.specs.declared.Lists.{Lists}
use Rattle.two_way.specs.Sides.{Two, two_of}
use Rattle.two_way.specs.declared.TwoLists.{TwoLists}

-- the value at a place
abbrev pub value : List ℤ → ℕ → ℤ
value v i = get_or v i (pos 0)

-- how many ranges the left list has
abbrev pub first : List ℕ → ℕ
first ns = get_or ns 0 0

-- the two lists that are lent: the first count tells where the left ends
abbrev pub two_lists : {P : Type 0} → Lists P → TwoLists P
two_lists l = record { starts = l.starts; ends = l.ends; middle = first l.counts.now }

module _ {P : Type 0} (w : Width P) where
  abbrev pub pairs : Pairing → Lent P → List (Piece Match)
  pairs o l = paired o w.points (tracks w l)

  -- the two lists, of which the left has m ranges
  abbrev pub both : Lent P → ℕ → Two P
  both l m = two_of w l.starts l.ends m
