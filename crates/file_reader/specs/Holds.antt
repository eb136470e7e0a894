-- What a file holds, and the columns with it. Assumes nothing.
use Rattle.std.specs.Prelude.{ℕ, ◌≤◌, ◌≡◌, List, ℤ, length, take}
use Rattle.std.specs.declared.option.Option.TheVariants.{Some}
use Rattle.std.specs.declared.result.Result.{Result}
use Rattle.std.specs.declared.result.Result.TheVariants.{Ok, Err}
use Rattle.rules.specs.Lists.{Lent}
use Rattle.many_way_rules.specs.Sheet.{Tariff, flat, lend}
use Rattle.tariff_file.specs.File.{task_of, refused, accepted, records_of}
use Rattle.tariff_file.specs.declared.Refusal.{Refusal}
use Rattle.file_reader.specs.declared.Contents.{Contents}

-- the file b has what h says, and the fronts of the columns lend its lists
pub record Lends (b : List ℕ) (h : Contents) (c : Lent ℤ) : Type 0 where
  pub lists : List (Tariff ℤ)
  pub read : records_of b ≡ accepted (record { operation = h.head.operation; combiner = h.head.combiner }) lists
  pub known : task_of h.head.operation ≡ Some h.head.task
  pub few_lists : h.head.lists ≤ 16
  pub few_ranges : h.ranges ≤ 2048
  pub all_lists : length lists ≡ h.head.lists
  pub all_ranges : length (flat lists) ≡ h.ranges
  pub lent : record { starts = take h.ranges c.starts; ends = take h.ranges c.ends; values = take h.ranges c.values; counts = take h.head.lists c.counts } ≡ lend lists

abbrev pub Holds : List ℕ → Result Contents Refusal → Lent ℤ → Type 0
Holds b (Ok h) c = Lends b h c
Holds b (Err x) c = records_of b ≡ refused x
