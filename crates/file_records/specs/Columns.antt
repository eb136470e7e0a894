-- Columns that take what is read from a place on. Assumes nothing.
use Rattle.std.specs.Prelude.{ℕ, ◌+◌, ◌≡◌, List, ◌++◌, map, ℤ, length, take}
use Rattle.rules.specs.Merged.{Merged, output, lengths}
use Rattle.many_way_rules.specs.Sheet.{Tariff}
use Rattle.file_records.specs.declared.Columns.{Columns}

-- what the columns hold
abbrev pub columns_of : Columns → Merged ℤ
columns_of c = output c.starts c.ends c.values

-- d has the columns that c has, lent by the same and as long
pub record Same (c d : Columns) : Type 0 where
  pub starts : d.starts.ghost_name ≡ c.starts.ghost_name
  pub ends : d.ends.ghost_name ≡ c.ends.ghost_name
  pub values : d.values.ghost_name ≡ c.values.ghost_name
  pub long : lengths (columns_of d) ≡ lengths (columns_of c)

-- after the first n places, which are kept, stands what f takes of each of xs
abbrev pub Laid : {A R : Type 0} → (R → A) → ℕ → List R → List A → List A → Type 0
Laid f n xs b c = take (n + length xs) c ≡ take n b ++ map f xs

-- columns b take ranges, and are c
pub record Took (n : ℕ) (b c : Merged ℤ) (l : Tariff ℤ) : Type 0 where
  pub starts : Laid (λ x. x.start) n l b.start c.start
  pub ends : Laid (λ x. x.end) n l b.end c.end
  pub values : Laid (λ x. x.value) n l b.value c.value
