-- Pieces as the code holds them, and a piece that may still grow. Assumes nothing.
use Rattle.std.specs.Prelude.{ℕ, ◌≡◌, Bool, List, [], ◌∷◌, ◌++◌, ℤ, length}
use Rattle.std.specs.declared.option.Option.{Option}
use Rattle.std.specs.declared.option.Option.TheVariants.{None, Some}
use Rattle.rules.specs.Piece as rules
use Rattle.rules.specs.Runs.{push}
use Rattle.multiway_pass.specs.declared.Piece.{Piece}

-- so many lists have os, n of them something
pub record Present (lists n : ℕ) (os : List (Option ℤ)) : Type 0 where
  pub long : length os ≡ lists
  pub count : n ≡ length (rules.present os)

abbrev pub piece_of : Piece → rules.Range
piece_of x = record { start = x.start; end = x.end; value = x.value }

-- what is pending, as a list
abbrev pub waiting : Option Piece → List rules.Range
waiting None = []
waiting (Some x) = piece_of x ∷ []

-- a piece y is pushed to pieces that wait, whatever their values: next is done then, and z waits
pub record PushedOn {B : Type 0} (same : B → B → Bool) (waits : List (rules.Piece B)) (y : rules.Piece B) (next : List (rules.Piece B)) (z : rules.Piece B) : Type 0 where
  pub is : next ++ (z ∷ []) ≡ push same waits y
