-- Two-way operations: the line is cut where the covering left range, or the covering right range, or either's absence, changes. A range is known by its place, so nothing merges; values are read when the runs are found. Assumes nothing.
use Rattle.std.specs.Prelude.{ℕ, max, min, Bool, cond, ◌&&◌, ◌||◌, List, [], ◌∷◌, ◌++◌, eqb, leb, ℤ, pos}
use Rattle.std.specs.declared.option.Option.{Option}
use Rattle.std.specs.declared.option.Option.TheVariants.{None, Some}
use Rattle.rules.specs.Piece.{Piece, there}
use Rattle.rules.specs.Same.{eq_option, eq_pair}
use Rattle.rules.specs.Runs.{runs}
use Rattle.rules.specs.declared.Pairing.{Pairing}
use Rattle.rules.specs.declared.Pairing.TheVariants.{Inner, Left, Full}

-- the places of the ranges that cover, left and right
abbrev pub Match : Type 0
Match = Option ℕ × Option ℕ

-- inner keeps what both cover, left what the left covers, full what either covers
abbrev pub keeps : Pairing → Match → Bool
keeps Inner m = there m.0 && there m.1
keeps Left m = there m.0
keeps Full m = there m.0 || there m.1

abbrev pub pair_rule : Pairing → List (Option ℕ) → Option Match
pair_rule o [] = None
pair_rule o (l ∷ []) = None
pair_rule o (l ∷ r ∷ []) = cond (keeps o (l, r)) (Some (l, r)) None
pair_rule o (l ∷ r ∷ m ∷ ms) = None

abbrev pub same_match : Match → Match → Bool
same_match = eq_pair (eq_option eqb) (eq_option eqb)

-- the pieces of two lists over n points, whose values are places
unfoldable pub paired : Pairing → ℕ → List (List (Piece ℕ)) → List (Piece Match)
unfolding runs
paired o n ls = runs same_match (pair_rule o) n ls

-- a missing side is written as value 0 with its presence bit clear: bit 0 left, bit 1 right
abbrev pub side_value : (ℕ → ℤ) → Option ℕ → ℤ
side_value v None = pos 0
side_value v (Some i) = v i

abbrev pub presence : Match → ℕ
presence (None, None) = 0
presence (Some i, None) = 1
presence (None, Some j) = 2
presence (Some i, Some j) = 3

-- the intersection of a left range and a right range, where they share a point
abbrev pub meet : Piece ℕ → Piece ℕ → List (Piece Match)
meet x y =
    let from = max x.start y.start in
    let upto = min x.end y.end in
    cond (leb from upto) (record { start = from; end = upto; value = (Some x.value, Some y.value) } ∷ []) []

-- one piece for every left range and right range that share a point
abbrev pub meet_all : Piece ℕ → List (Piece ℕ) → List (Piece Match)
meet_all x [] = []
meet_all x (y ∷ ys) = meet x y ++ meet_all x ys

abbrev pub meets : List (Piece ℕ) → List (Piece ℕ) → List (Piece Match)
meets [] ys = []
meets (x ∷ xs) ys = meet_all x ys ++ meets xs ys

-- the runs of a cutting that an operation keeps
abbrev pub kept : Pairing → List (Piece Match) → List (Piece Match)
kept o [] = []
kept o (x ∷ xs) = let rest = kept o xs in cond (keeps o x.value) (x ∷ rest) rest
