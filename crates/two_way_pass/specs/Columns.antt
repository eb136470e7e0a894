-- What the contracts say of columns: the pieces of a pass are laid into them. Assumes nothing.
use Rattle.std.specs.Prelude.{ℕ, ◌≤◌, ◌<◌, ◌≡◌, Bool, true, false, List, ℤ, length, set}
use Rattle.rules.specs.Piece.{Piece}
use Rattle.rules.specs.Lists.{Width, Lent}
use Rattle.rules.specs.TwoWay.{Match, side_value, presence}
use Rattle.rules.specs.Paired.{Paired, columns, room, lay}
use Rattle.rules.specs.declared.Pairing.{Pairing}
use Rattle.two_way.specs.Sides.{left_place, right_place, piece_of}
use Rattle.two_way.specs.Steps.{Inside}
use Rattle.two_way.specs.declared.Pair.{Pair}
use Rattle.two_way_pass.specs.Pairs.{value, pairs}
use Rattle.two_way_pass.specs.declared.Columns.{Columns}

-- what stands behind columns that are lent
abbrev pub behind : {P : Type 0} → Columns P → Paired P
behind c = columns c.start.now c.end.now c.left.now c.right.now c.presence.now

-- d has the columns that c has, lent by the same
pub record Same {P : Type 0} (c d : Columns P) : Type 0 where
  pub start : d.start.ghost_name ≡ c.start.ghost_name
  pub end : d.end.ghost_name ≡ c.end.ghost_name
  pub left : d.left.ghost_name ≡ c.left.ghost_name
  pub right : d.right.ghost_name ≡ c.right.ghost_name
  pub presence : d.presence.ghost_name ≡ c.presence.ghost_name

module _ {P : Type 0} (w : Width P) (v : List ℤ) where
  -- there is a place for a piece, its points are points, and its places are those of values
  pub record Writable (place : ℕ) (y : Pair) (c : Paired P) : Type 0 where
    pub room : place < room c
    pub start : y.start < w.points
    pub end : y.end < w.points
    pub left : Inside (length v) (left_place y)
    pub right : Inside (length v) (right_place y)

  -- the columns with a piece at a place
  abbrev pub row : ℕ → Piece Match → Paired P → Paired P
  row place x c =
      record {
        start = set c.start place (w.point x.start);
        end = set c.end place (w.point x.end);
        left = set c.left place (side_value (value v) x.value.0);
        right = set c.right place (side_value (value v) x.value.1);
        presence = set c.presence place (presence x.value);
      }

  -- a piece is put at a place: the columns before, and after
  pub record PutPair (place : ℕ) (y : Pair) (c d : Paired P) : Type 0 where
    pub is : d ≡ row place (piece_of y) c

  -- the columns with pieces from a place on, where they are written
  abbrev pub lays : Bool → ℕ → List (Piece Match) → Paired P → Paired P
  lays true place xs c = lay w (value v) place xs c
  lays false place xs c = c

module _ {P : Type 0} (w : Width P) (o : Pairing) (l : Lent P) where
  -- there is room for all pieces, where they are written
  pub record Roomy (write : Bool) (c : Paired P) : Type 0 where
    pub enough : write ≡ true → length (pairs w o l) ≤ room c

  -- n counts all pieces, and they stand at the front of the columns, where they are written: the columns before, and after
  pub record Passed (write : Bool) (c d : Paired P) (n : ℕ) : Type 0 where
    pub count : n ≡ length (pairs w o l)
    pub laid : d ≡ lays w l.values write 0 (pairs w o l) c
