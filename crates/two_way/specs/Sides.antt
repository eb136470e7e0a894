-- Two lists that lie end to end, and what is left of them once the points before a place are done. Assumes nothing.
use Rattle.std.specs.Prelude.{ℕ, max, ◌+◌, ◌-◌, Bool, true, false, cond, List, [], ◌∷◌, ltb, eqb, length}
use Rattle.std.specs.declared.option.Option.{Option}
use Rattle.std.specs.declared.option.Option.TheVariants.{None, Some}
use Rattle.rules.specs.Piece.{Piece}
use Rattle.rules.specs.Lists.{Width, ranges, keys}
use Rattle.rules.specs.TwoWay.{Match, paired}
use Rattle.rules.specs.declared.Pairing.{Pairing}
use Rattle.two_way.specs.declared.TwoLists.{TwoLists}
use Rattle.two_way.specs.declared.Side.{Side}
use Rattle.two_way.specs.declared.Cursor.{Cursor}
use Rattle.two_way.specs.declared.Pair.{Pair}
use Rattle.two_way.specs.declared.Presence.{Presence}
use Rattle.two_way.specs.declared.Presence.TheVariants.{Left, Right, Both}

-- the place of a side, unless it is missing
abbrev pub unless : Bool → ℕ → Option ℕ
unless true i = None
unless false i = Some i

abbrev pub no_left : Presence → Bool
no_left Left = false
no_left Right = true
no_left Both = false

abbrev pub no_right : Presence → Bool
no_right Left = true
no_right Right = false
no_right Both = false

-- the sides that a number names: 1 the left alone, 2 the right alone, any other both
abbrev pub sides_of : ℕ → Presence
sides_of n = cond (eqb n 1) Left (cond (eqb n 2) Right Both)

abbrev pub left_place : Pair → Option ℕ
left_place x = unless (no_left x.presence) x.left

abbrev pub right_place : Pair → Option ℕ
right_place x = unless (no_right x.presence) x.right

-- a piece as the rules have it
abbrev pub piece_of : Pair → Piece Match
piece_of x = record { start = x.start; end = x.end; value = (left_place x, right_place x) }

-- a piece of the left alone, of the right alone, and of both
abbrev pub of_left : Side → ℕ → ℕ → Pair
of_left x j q = record { start = x.start; end = q; left = x.at; right = j; presence = Left }

abbrev pub of_right : ℕ → Side → ℕ → Pair
of_right i y q = record { start = y.start; end = q; left = i; right = y.at; presence = Right }

abbrev pub of_both : Side → Side → ℕ → Pair
of_both x y q = record { start = max x.start y.start; end = q; left = x.at; right = y.at; presence = Both }

-- a side of a list that stops at a place, where it is not over
abbrev pub here : ℕ → Side → Option Side
here stop c = cond (ltb c.at stop) (Some c) None

-- what is left of each of two lists
pub record View : Type 0 where
  pub left : Option Side
  pub right : Option Side

module _ (s e : ℕ → ℕ) (stop : ℕ) where
  -- the ranges from place i on of a list at places up to but not stop
  abbrev pub onward : ℕ → List (Piece ℕ)
  onward i = ranges s e (λ k. k) i (stop - i)

  -- what is left of it: a range from a point on, and the ranges after it
  abbrev pub side : Option Side → List (Piece ℕ)
  side None = []
  side (Some c) = record { start = c.start; end = e c.at; value = c.at } ∷ onward (c.at + 1)

  -- what is left past q of a list whose range at place i has q
  abbrev pub past : ℕ → ℕ → List (Piece ℕ)
  past i q = cond (ltb q (e i)) (side (Some (record { at = i; start = q + 1 }))) (onward (i + 1))

  -- what is left past q of a side, which has no range there or the one at a place
  abbrev pub moved : Option ℕ → Option Side → ℕ → List (Piece ℕ)
  moved None c q = side c
  moved (Some i) c q = past i q

-- two lists in columns: the left at the places below the middle, the right from there on
pub record Two (P : Type 0) : Type 0 where
  pub width : Width P
  pub starts : List P
  pub ends : List P
  pub middle : ℕ

abbrev pub two_of : {P : Type 0} → Width P → List P → List P → ℕ → Two P
two_of w s e m = record { width = w; starts = s; ends = e; middle = m }

abbrev pub two : {P : Type 0} → Width P → TwoLists P → Two P
two w l = two_of w l.starts.now l.ends.now l.middle

module _ {P : Type 0} (t : Two P) where
  abbrev pub start_at : ℕ → ℕ
  start_at = keys t.width t.starts

  abbrev pub end_at : ℕ → ℕ
  end_at = keys t.width t.ends

  abbrev pub stop : ℕ
  stop = length t.starts

  abbrev pub view : Cursor → View
  view c = record { left = here t.middle c.left; right = here stop c.right }

  -- the ranges that are left of each list
  abbrev pub left_of : View → List (Piece ℕ)
  left_of c = side start_at end_at t.middle c.left

  abbrev pub right_of : View → List (Piece ℕ)
  right_of c = side start_at end_at stop c.right

  -- the pieces that are still to come
  abbrev pub remains : Pairing → View → List (Piece Match)
  remains o c = paired o t.width.points (left_of c ∷ right_of c ∷ [])
