-- What comes back: a code and a number; the refusals in their order; columns. Assumes nothing.
use Rattle.std.specs.Prelude.{ℕ, ⊤, ◌+◌, min, Bool, true, false, cond, not, ◌&&◌, List, [], ◌∷◌, ◌++◌, map, ltb, leb, eqb, length, take, drop}
use Rattle.std.specs.declared.option.Option.{Option}
use Rattle.std.specs.declared.option.Option.TheVariants.{None, Some}
use Rattle.std.specs.declared.result.Result.{Result}
use Rattle.std.specs.declared.result.Result.TheVariants.{Ok, Err}
use Rattle.rules.specs.Piece.{Piece}
use Rattle.rules.specs.Lists.{Width, Lent, total, tracks}
use Rattle.rules.specs.declared.Refusal.{Refusal}
use Rattle.rules.specs.declared.Refusal.TheVariants.{TooManyLists, NotTwoLists, TooManyRanges, ColumnsDiffer, Backward, Overlap, UnknownCombiner, NoRoom}
use Rattle.rules.specs.declared.Kind.{Kind}
use Rattle.rules.specs.declared.Kind.TheVariants.{Listing, TwoWay, Combining, Selection}

-- what a call answers: the pieces written, or why it is refused
abbrev pub Answer : Type 0
Answer = Result ℕ Refusal

-- what is found before an operation runs
abbrev pub Judgement : Type 0
Judgement = Result ⊤ Refusal

abbrev pub refusal_code : Refusal → ℕ
refusal_code TooManyLists = 1
refusal_code NotTwoLists = 2
refusal_code TooManyRanges = 3
refusal_code ColumnsDiffer = 4
refusal_code (Backward i) = 5
refusal_code (Overlap i) = 6
refusal_code UnknownCombiner = 7
refusal_code (NoRoom n) = 8

abbrev pub refusal_number : Refusal → ℕ
refusal_number TooManyLists = 0
refusal_number NotTwoLists = 0
refusal_number TooManyRanges = 0
refusal_number ColumnsDiffer = 0
refusal_number (Backward i) = i
refusal_number (Overlap i) = i
refusal_number UnknownCombiner = 0
refusal_number (NoRoom n) = n

abbrev pub code_of : Answer → ℕ
code_of (Ok n) = 0
code_of (Err r) = refusal_code r

abbrev pub number_of : Answer → ℕ
number_of (Ok n) = n
number_of (Err r) = refusal_number r

-- a refusal where it is due, or else what comes after it
abbrev pub refuse : Bool → Refusal → Judgement → Judgement
refuse true r next = Err r
refuse false r next = next

abbrev pub or_else : Judgement → Judgement → Judgement
or_else (Ok u) next = next
or_else (Err r) next = Err r

-- a start not beyond the end before it; the first range of a list has none before it
abbrev pub overlaps : Option ℕ → ℕ → Bool
overlaps None p = false
overlaps (Some e) p = leb p e

-- one range, whose value is its flat index, after one of its list that ends at o
abbrev pub judge_range : Option ℕ → Piece ℕ → Judgement
judge_range o x = refuse (ltb x.end x.start) (Backward x.value) (refuse (overlaps o x.start) (Overlap x.value) (Ok tt))

abbrev pub judge_list : Option ℕ → List (Piece ℕ) → Judgement
judge_list o [] = Ok tt
judge_list o (x ∷ xs) = or_else (judge_range o x) (judge_list (Some x.end) xs)

-- the first faulty range
abbrev pub judge_lists : List (List (Piece ℕ)) → Judgement
judge_lists [] = Ok tt
judge_lists (l ∷ ls) = or_else (judge_list None l) (judge_lists ls)

abbrev pub two_way : Kind → Bool
two_way Listing = false
two_way TwoWay = true
two_way (Combining known) = false
two_way Selection = false

abbrev pub unknown_combiner : Kind → Bool
unknown_combiner Listing = false
unknown_combiner TwoWay = false
unknown_combiner (Combining known) = not known
unknown_combiner Selection = false

module _ {P : Type 0} where
  -- starts, ends and values have one length, and the counts add up to it
  abbrev pub agree : Lent P → Bool
  agree l = eqb (length l.ends) (length l.starts) && eqb (length l.values) (length l.starts) && eqb (total l.counts) (length l.starts)

  -- what is refused before an operation runs: 1, 2, 4, 3, 7, then the first faulty range
  unfoldable pub judge : Width P → Kind → Lent P → Judgement
  judge w k l =
      refuse (ltb 16 (length l.counts)) TooManyLists
      (refuse (two_way k && not (eqb (length l.counts) 2)) NotTwoLists
      (refuse (not (agree l)) ColumnsDiffer
      (refuse (ltb 2048 (length l.starts)) TooManyRanges
      (refuse (unknown_combiner k) UnknownCombiner
      (judge_lists (tracks w l))))))

-- what a call leaves: its answer, and the columns as they are then
pub record Outcome (C : Type 0) : Type 0 where
  pub answer : Answer
  pub columns : C

abbrev pub leaves : {C : Type 0} → Answer → C → Outcome C
leaves a c = record { answer = a; columns = c }

-- a refusal leaves the columns; else 8 where the pieces needed exceed the room, or they are written
abbrev pub settle : {C : Type 0} → Judgement → ℕ → ℕ → C → C → Outcome C
settle (Err r) needed room before after = record { answer = Err r; columns = before }
settle (Ok u) needed room before after = cond (leb needed room) (record { answer = Ok needed; columns = after }) (record { answer = Err (NoRoom needed); columns = before })

-- the room is the length of the shortest column
abbrev pub least : List ℕ → ℕ
least [] = 0
least (n ∷ []) = n
least (n ∷ m ∷ ms) = min n (least (m ∷ ms))

-- a column with what f takes of each piece, laid from place n on; the other places keep their contents
abbrev pub laid : {A R : Type 0} → ℕ → (R → A) → List R → List A → List A
laid n f xs l = take n l ++ (map f xs ++ drop (n + length xs) l)

-- at the front of the column
abbrev pub front : {A R : Type 0} → (R → A) → List R → List A → List A
front f xs l = laid 0 f xs l
