-- The table of refusals: when each answer is due, apart from the order, and the order. Assumes nothing.
use Rattle.std.specs.Prelude.{ℕ, ◌-◌, ◌≤◌, ◌<◌, ◌≡◌, ◌≢◌, ◌⊎◌, Bool, true, false, cond, List, [], ◌∷◌, ltb, length}
use Rattle.std.specs.declared.result.Result.TheVariants.{Ok, Err}
use Rattle.rules.specs.Piece.{AllWellFormed}
use Rattle.rules.specs.Lists.{Width, Lent, keys, total, tracks}
use Rattle.rules.specs.Answer.{Answer, two_way, unknown_combiner}
use Rattle.rules.specs.declared.Refusal.TheVariants.{TooManyLists, NotTwoLists, TooManyRanges, ColumnsDiffer, Backward, Overlap, UnknownCombiner, NoRoom}
use Rattle.rules.specs.declared.Kind.{Kind}

-- the range at the flat index i has one before it in its list
abbrev pub follows : List ℕ → ℕ → Bool
follows [] i = false
follows (n ∷ ns) i = let later = follows ns (i - n) in cond (ltb i n) (ltb 0 i) later

-- 1, 2, 4, 3, 7, then the first faulty range, then 8
abbrev pub turn : Answer → ℕ
turn (Err TooManyLists) = 0
turn (Err NotTwoLists) = 1
turn (Err ColumnsDiffer) = 2
turn (Err TooManyRanges) = 3
turn (Err UnknownCombiner) = 4
turn (Err (Backward i)) = 5
turn (Err (Overlap i)) = 5
turn (Err (NoRoom n)) = 6
turn (Ok n) = 7

-- starts, ends and values have one length, and the counts add up to it
pub record Agree {P : Type 0} (l : Lent P) : Type 0 where
  pub ends_long : length l.ends ≡ length l.starts
  pub values_long : length l.values ≡ length l.starts
  pub adds_up : total l.counts ≡ length l.starts

-- what the form checker passes: lists within the limits of an operation, in columns of one length, and well formed whatever their values
pub record Formed {P : Type 0} (w : Width P) (k : Kind) (l : Lent P) : Type 0 where
  pub lists_few : length l.counts ≤ 16
  pub two : two_way k ≡ true → length l.counts ≡ 2
  pub agree : Agree l
  pub ranges_few : length l.starts ≤ 2048
  pub known_combiner : unknown_combiner k ≡ false
  pub formed : AllWellFormed w.points (tracks w l)

module _ {P : Type 0} (w : Width P) (l : Lent P) where
  -- a start beyond its end; a start not beyond the end before it in its list
  abbrev pub IsBackward : ℕ → Type 0
  IsBackward i = keys w l.ends i < keys w l.starts i

  abbrev pub IsOverlap : ℕ → Type 0
  IsOverlap i = (follows l.counts i ≡ true) × (keys w l.starts i ≤ keys w l.ends (i - 1))

  -- there is a range at i, and those before it have no fault
  abbrev pub FirstFault : ℕ → Type 0
  FirstFault i = (i < length l.starts) × ((j : ℕ) → j < i → IsBackward j ⊎ IsOverlap j → ⊥)

module _ {P : Type 0} (w : Width P) (k : Kind) (l : Lent P) (needed room : ℕ) where
  abbrev pub Due : Answer → Type 0
  Due (Err TooManyLists) = 16 < length l.counts
  Due (Err NotTwoLists) = (two_way k ≡ true) × (length l.counts ≢ 2)
  Due (Err TooManyRanges) = 2048 < length l.starts
  Due (Err ColumnsDiffer) = Agree l → ⊥
  Due (Err (Backward i)) = FirstFault w l i × IsBackward w l i
  Due (Err (Overlap i)) = FirstFault w l i × (IsBackward w l i → ⊥) × IsOverlap w l i
  Due (Err UnknownCombiner) = unknown_combiner k ≡ true
  Due (Err (NoRoom n)) = (room < needed) × (n ≡ needed)
  Due (Ok n) = n ≡ needed

  -- an answer is given exactly when it is due and none of an earlier turn is
  abbrev pub Given : Answer → Type 0
  Given a = Due a × ((b : Answer) → turn b < turn a → Due b → ⊥)
