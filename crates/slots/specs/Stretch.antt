-- A stretch: points on which the lists have the same. Whatever finds stretches promises this of each. Assumes nothing.
use Rattle.std.specs.Prelude.{ℕ, ◌≤◌, ◌<◌, ◌≡◌, List}
use Rattle.std.specs.declared.option.Option.{Option}
use Rattle.rules.specs.Piece.{Piece, column}
use Rattle.rules.specs.Proving.Below.{nones}

module _ {A : Type 0} (points : ℕ) (ls : List (List (Piece A))) where
  -- the points from start to end are the first stretch from k on: before it the lists have nothing, and on it they have act
  pub record Stretch (k : ℕ) (act : List (Option A)) (start end : ℕ) : Type 0 where
    pub later : k ≤ start
    pub order : start ≤ end
    pub below : end < points
    pub gap : (p : ℕ) → k ≤ p → p < start → column ls p ≡ nones ls
    pub on : (p : ℕ) → start ≤ p → p ≤ end → column ls p ≡ act

  -- no stretch is left from k on
  abbrev pub NoStretch : ℕ → Type 0
  NoStretch k = (p : ℕ) → k ≤ p → p < points → column ls p ≡ nones ls
