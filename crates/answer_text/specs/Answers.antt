-- The text of an answer: a header and a row for each piece, or a refusal's one line. Assumes nothing.
use Rattle.std.specs.Prelude.{ℕ, zero, suc, ◌/◌, ◌%◌, Bool, true, false, List, [], ◌∷◌, ◌++◌, map, eqb, ℤ, pos, length, get_or}
use Rattle.std.specs.declared.option.Option.{Option}
use Rattle.std.specs.declared.option.Option.TheVariants.{None, Some}
use Rattle.rules.specs.Merged.{Merged}
use Rattle.rules.specs.Paired.{Paired}
use Rattle.answer_text.specs.Numbers.{decimal, signed}
use Rattle.answer_text.specs.Lines.{text}

-- a piece of a many-way join or selection, and one of a two-way operation
pub record Row : Type 0 where
  pub start : ℤ
  pub end : ℤ
  pub value : ℤ

pub record Pair : Type 0 where
  pub start : ℤ
  pub end : ℤ
  pub left : Option ℤ
  pub right : Option ℤ

pub data Answer : Type 0 where
  merged : (operation combiner lists : ℕ) → List Row → Answer
  paired : (operation combiner lists : ℕ) → List Pair → Answer
  refused : (code number : ℕ) → Answer

-- start, end, value
abbrev pub row : Row → List (List ℕ)
row r = signed r.start ∷ signed r.end ∷ signed r.value ∷ []

-- `-` for a missing side
abbrev pub side : Option ℤ → List ℕ
side None = 45 ∷ []
side (Some v) = signed v

-- start, end, left, right
abbrev pub pair : Pair → List (List ℕ)
pair p = signed p.start ∷ signed p.end ∷ side p.left ∷ side p.right ∷ []

-- `join`, operation, combiner, lists, pieces
abbrev pub header : ℕ → ℕ → ℕ → ℕ → List (List ℕ)
header o c l n = (106 ∷ 111 ∷ 105 ∷ 110 ∷ []) ∷ decimal o ∷ decimal c ∷ decimal l ∷ decimal n ∷ []

-- `refused`, code, number
abbrev pub refusal : ℕ → ℕ → List (List ℕ)
refusal c n = (114 ∷ 101 ∷ 102 ∷ 117 ∷ 115 ∷ 101 ∷ 100 ∷ []) ∷ decimal c ∷ decimal n ∷ []

abbrev pub lines : Answer → List (List (List ℕ))
lines (merged o c l rs) = header o c l (length rs) ∷ map row rs
lines (paired o c l ps) = header o c l (length ps) ∷ map pair ps
lines (refused c n) = refusal c n ∷ []

abbrev pub answer : Answer → List ℕ
answer a = text (lines a)

-- the first n of what stands at the places from 0 on
abbrev pub firsts : {A : Type 0} → (ℕ → A) → ℕ → List A
firsts f zero = []
firsts f (suc n) = firsts f n ++ (f n ∷ [])

-- the piece at a place of the columns, and the first n
abbrev pub row_at : Merged ℤ → ℕ → Row
row_at c i = record { start = get_or c.start i (pos 0); end = get_or c.end i (pos 0); value = get_or c.value i (pos 0) }

abbrev pub rows : Merged ℤ → ℕ → List Row
rows c n = firsts (row_at c) n

-- a side from its presence and its value
abbrev pub present : Bool → ℤ → Option ℤ
present true v = Some v
present false v = None

-- bit 0 of a presence is the left, bit 1 the right
abbrev pub left_there : ℕ → Bool
left_there p = eqb (p % 2) 1

abbrev pub right_there : ℕ → Bool
right_there p = eqb (p / 2 % 2) 1

abbrev pub pair_at : Paired ℤ → ℕ → Pair
pair_at c i =
    let p = get_or c.presence i 0 in
    record { start = get_or c.start i (pos 0); end = get_or c.end i (pos 0); left = present (left_there p) (get_or c.left i (pos 0)); right = present (right_there p) (get_or c.right i (pos 0)) }

abbrev pub pairs : Paired ℤ → ℕ → List Pair
pairs c n = firsts (pair_at c) n

-- the texts of the answers, as functions print them
unfoldable pub merged_text : ℕ → ℕ → ℕ → Merged ℤ → ℕ → List ℕ
merged_text o c l m n = answer (merged o c l (rows m n))

unfoldable pub paired_text : ℕ → ℕ → ℕ → Paired ℤ → ℕ → List ℕ
paired_text o c l p n = answer (paired o c l (pairs p n))

unfoldable pub refusal_text : ℕ → ℕ → List ℕ
refusal_text c n = answer (refused c n)
