-- The frontier: pieces that say what a rule says of the points below it. Assumes nothing.
use Rattle.std.specs.Prelude.{ℕ, ◌+◌, ◌<◌, ◌≡◌, List, [], ◌∷◌, map, length}
use Rattle.std.specs.declared.option.Option.{Option}
use Rattle.std.specs.declared.option.Option.TheVariants.{None}
use Rattle.rules.specs.Piece.{Piece, at, Canonical}

-- what lists have where none has a piece
abbrev pub nones : {A : Type 0} → List (List (Piece A)) → List (Option A)
nones ls = map (λ l. None) ls

-- the ranges of all lists
abbrev pub size : {A : Type 0} → List (List (Piece A)) → ℕ
size [] = 0
size (l ∷ ls) = length l + size ls

-- xs is canonical, ends below c, and has what f says at each point below c
pub record Below {B : Type 0} (c : ℕ) (xs : List (Piece B)) (f : ℕ → Option B) : Type 0 where
  pub canonical : Canonical c xs
  pub agrees : (p : ℕ) → p < c → at xs p ≡ f p
