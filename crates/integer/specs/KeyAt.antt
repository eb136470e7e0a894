-- What the key at a place of a column is, in any width. Assumes nothing.
use Rattle.std.specs.Prelude.{ℕ, ◌<◌, ◌≡◌, List}
use Rattle.rules.specs.Lists.{Width, keys}

pub record KeyAt {P : Type 0} (w : Width P) (column : List P) (place r : ℕ) : Type 0 where
  pub is : r ≡ keys w column place
  pub below : r < w.points
