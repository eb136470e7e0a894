-- Figures over the values present, with their bounds. Assumes nothing.
use Rattle.std.specs.Prelude.{ℕ, ◌*◌, ◌≤◌, ◌^◌, ◌≡◌, Bool, cond, List, ℤ, pos, negsuc, ◌-ℤ◌, length}
use Rattle.std.specs.declared.option.Option.{Option}
use Rattle.std.specs.declared.option.Option.TheVariants.{None, Some}
use Rattle.std.specs.Int.Signed.{mag}
use Rattle.many_way_rules.specs.Combiners.{sum_of, largest, smallest}
use Rattle.slots.specs.Slots.{Slots, values_of}

-- r is the sum of the values present in so many places, each of them an i32
pub record Summed (places : ℕ) (s : Slots) (r : ℤ) : Type 0 where
  pub is : r ≡ sum_of (values_of places s)
  pub bound : mag r ≤ places * 2 ^ 31

-- r is how many values are present in so many places
pub record Numbered (places : ℕ) (s : Slots) (r : ℤ) : Type 0 where
  pub is : r ≡ pos (length (values_of places s))
  pub bound : mag r ≤ places

-- the lowest price
abbrev pub lowest : ℤ
lowest = negsuc 2147483647

abbrev pub mirror : ℤ → ℤ
mirror z = negsuc 0 -ℤ z

abbrev pub mirrored : Bool → ℤ → ℤ
mirrored so v = cond so (mirror v) v

-- what a place weighs in the search for the largest value, or for the least
abbrev pub weight : Bool → Option ℤ → ℤ
weight least None = lowest
weight least (Some v) = mirrored least v

abbrev pub utmost : Bool → List ℤ → ℤ
utmost least vs = cond least (smallest vs) (largest vs)
