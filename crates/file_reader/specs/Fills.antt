-- How lists are read into columns. Assumes nothing.
use Rattle.std.specs.Prelude.{ℕ, ◌+◌, ◌≤◌, ◌≡◌, List, ℤ, length}
use Rattle.std.specs.declared.result.Result.{Result}
use Rattle.std.specs.declared.result.Result.TheVariants.{Ok, Err}
use Rattle.rules.specs.Merged.{Merged}
use Rattle.many_way_rules.specs.Sheet.{Tariff, flat}
use Rattle.tariff_file.specs.Reader.{stop, Reader}
use Rattle.tariff_file.specs.declared.Refusal.{Refusal}
use Rattle.file_records.specs.Ends.{reads, Got}
use Rattle.file_records.specs.Columns.{Laid, Took}
use Rattle.file_records.specs.declared.rest.Rest.{Rest}

-- p read what is left: what it gives, of which Put tells with how many ranges it has, and the rest, or a refusal
abbrev pub Fills : {A : Type 0} → Reader A → Rest → (ℕ → A → Type 0) → Result (Rest × ℕ) Refusal → Type 0
Fills p from Put (Ok (rest, n)) = Got p from (Put n) rest
Fills p from Put (Err x) = reads p from ≡ stop x

-- a list of n ranges, which stand in the columns after those before them
pub record Counted (prior : ℕ) (b c : Merged ℤ) (n : ℕ) (l : Tariff ℤ) : Type 0 where
  pub long : length l ≡ n
  pub few : prior + n ≤ 2048
  pub took : Took prior b c l

-- lists of n ranges, which stand at the front of the columns with their counts
pub record Gathered (lists : ℕ) (b c : Merged ℤ) (d e : List ℕ) (n : ℕ) (ls : List (Tariff ℤ)) : Type 0 where
  pub many : length ls ≡ lists
  pub long : length (flat ls) ≡ n
  pub few : n ≤ 2048
  pub took : Took 0 b c (flat ls)
  pub counts : Laid length 0 ls d e
