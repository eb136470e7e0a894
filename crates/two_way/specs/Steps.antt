-- What the contracts say of a step: a piece is taken off what is left of two lists. Assumes nothing.
use Rattle.std.specs.Prelude.{ℕ, ◌+◌, ◌≤◌, ◌<◌, ◌≡◌, List, [], ◌∷◌, length}
use Rattle.std.specs.declared.option.Option.{Option}
use Rattle.std.specs.declared.option.Option.TheVariants.{None, Some}
use Rattle.rules.specs.Piece.{Within}
use Rattle.rules.specs.Lists.{Width, keys}
use Rattle.rules.specs.declared.Pairing.{Pairing}
use Rattle.two_way.specs.Sides.{left_place, right_place, piece_of, here, View, view, side, moved, Two, start_at, end_at, stop, left_of, right_of, remains}
use Rattle.two_way.specs.declared.Side.{Side}
use Rattle.two_way.specs.declared.Cursor.{Cursor}
use Rattle.two_way.specs.declared.Pair.{Pair}

-- a place, where there is one, is below k
abbrev pub Inside : ℕ → Option ℕ → Type 0
Inside k None = Unit {0}
Inside k (Some i) = i < k

-- and so is the place of a side, where it is not over
abbrev pub Before : ℕ → Option Side → Type 0
Before k None = Unit {0}
Before k (Some c) = c.at < k

-- a list from place i on
pub record Fresh {P : Type 0} (w : Width P) (starts : List P) (stop i : ℕ) (r : Side) : Type 0 where
  pub place : r.at ≡ i
  pub from : i < stop → r.start ≡ keys w starts i

-- both lists, from their first ranges on
pub record Begun {P : Type 0} (t : Two P) (r : Cursor) : Type 0 where
  pub left : Fresh t.width t.starts t.middle 0 r.left
  pub right : Fresh t.width t.starts (stop t) t.middle r.right

-- a side's range, where it has one, is one of the columns
pub record Ends {P : Type 0} (starts ends : List P) (stop : ℕ) (taken : Option ℕ) : Type 0 where
  pub ends_long : length ends ≡ length starts
  pub within : stop ≤ length starts
  pub range : Inside stop taken

-- what is kept of a side past q
pub record Kept {P : Type 0} (w : Width P) (starts ends : List P) (stop : ℕ) (c : Side) (taken : Option ℕ) (q : ℕ) (r : Side) : Type 0 where
  pub is : side (keys w starts) (keys w ends) stop (here stop r) ≡ moved (keys w starts) (keys w ends) stop taken (here stop c) q

module _ {P : Type 0} (t : Two P) where
  -- the columns are of one length, and what is left of both lists is ranges of them, which ascend
  pub record Ready (c : View) : Type 0 where
    pub ends_long : length t.ends ≡ length t.starts
    pub splits : t.middle ≤ stop t
    pub left_place : Before t.middle c.left
    pub right_place : Before (stop t) c.right
    pub left : Within 0 t.width.points (left_of t c)
    pub right : Within 0 t.width.points (right_of t c)

  -- a side's range at a place has the points from p to q, or the side has none up to q
  abbrev pub Covers : ℕ → Option ℕ → Option Side → ℕ → ℕ → Type 0
  Covers k None c p q = Within (q + 1) t.width.points (side (start_at t) (end_at t) k c)
  Covers k (Some i) None p q = ⊥
  Covers k (Some i) (Some c) p q = (c.at ≡ i) × (c.start ≤ p) × (q ≤ end_at t c.at)

  -- the sides of a piece cover its points
  pub record Covering (c : View) (y : Pair) : Type 0 where
    pub ready : Ready c
    pub left : Covers t.middle (left_place y) c.left y.start y.end
    pub right : Covers (stop t) (right_place y) c.right y.start y.end

  -- a piece, and what is left past it
  pub record Taken (c : View) (y : Pair) (r : Pair × Cursor) : Type 0 where
    pub piece : r.0 ≡ y
    pub left : left_of t (view t r.1) ≡ moved (start_at t) (end_at t) t.middle (left_place y) c.left y.end
    pub right : right_of t (view t r.1) ≡ moved (start_at t) (end_at t) (stop t) (right_place y) c.right y.end

  -- a piece that can be written: its points are points, and its places are those of ranges
  pub record Fits (y : Pair) : Type 0 where
    pub order : y.start ≤ y.end
    pub below : y.end < t.width.points
    pub left : Inside (stop t) (left_place y)
    pub right : Inside (stop t) (right_place y)

  -- y is the next piece, and d is what is left then
  pub record Took (o : Pairing) (c : View) (y : Pair) (d : View) : Type 0 where
    pub next : remains t o c ≡ piece_of y ∷ remains t o d
    pub ready : Ready d
    pub fits : Fits y

  -- a step gives the next piece, or there is none
  abbrev pub Stepped : Pairing → View → Option (Pair × Cursor) → Type 0
  Stepped o c None = remains t o c ≡ []
  Stepped o c (Some (y, d)) = Took o c y (view t d)
