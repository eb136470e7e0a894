-- Columns of the same lengths. Assumes nothing.
use Rattle.std.specs.Prelude.{ℕ, ◌≡◌, List, [], ◌∷◌}

-- the lengths of some columns, now and at first
abbrev pub Long : List ℕ → List ℕ → Type 0
Long [] [] = Unit {0}
Long [] (n ∷ ns) = ⊥
Long (m ∷ ms) [] = ⊥
Long (m ∷ ms) (n ∷ ns) = (m ≡ n) × Long ms ns
