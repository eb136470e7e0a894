-- Columns of starts, ends and values that are lent as one, and pieces that are put into them. Assumes nothing.
use Rattle.std.specs.Prelude.{ℕ, ◌≡◌, Bool, List}
use Rattle.rules.specs.Piece.{Range}
use Rattle.rules.specs.Merged.{Merged, output}
use Rattle.multiway_pass.specs.Passes.{PutPieces}
use Rattle.multiway_pass.specs.declared.Output.{Output}

-- what they hold
abbrev pub columns_of : {P : Type 0} → Output P → Merged P
columns_of c = output c.start c.end c.value

-- d has the columns that c has, lent by the same
pub record Same {P : Type 0} (c d : Output P) : Type 0 where
  pub start : d.start.ghost_name ≡ c.start.ghost_name
  pub end : d.end.ghost_name ≡ c.end.ghost_name
  pub value : d.value.ghost_name ≡ c.value.ghost_name

-- pieces are put there, into the same columns
pub record Puts {P : Type 0} (lay : ℕ → List Range → Merged P → Merged P) (write : Bool) (n : ℕ) (xs : List Range) (c d : Output P) (r : ℕ) : Type 0 where
  pub same : Same c d
  pub put : PutPieces lay write n xs (columns_of c) (columns_of d) r
