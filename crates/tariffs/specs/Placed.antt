-- A list of structs as pieces, in order, each with its place in the place of its value. Assumes nothing.
use Rattle.std.specs.Prelude.{ℕ, suc, List, [], ◌∷◌}
use Rattle.rules.specs.Piece.{Piece}
use Rattle.form.specs.declared.Range.{Range}
use Rattle.form.specs.Shape.{piece}

module _ {T : Type 0} (range : T → Range) where
  -- those from place i on
  abbrev pub placed : ℕ → List T → List (Piece ℕ)
  placed i [] = []
  placed i (x ∷ xs) = piece (range x) i ∷ placed (suc i) xs
