-- What a contract reads of its parameters: what is lent, and the output columns before the call, are read at entry, and the columns after it at exit, each under its own name. Assumes nothing.
use Prim.Native.Nat.{ℕ}
use mathlib.Core.Path.{◌≡◌, refl}
use lib.IntN.{ℤ}
use Rattle.rules.specs.Lists.{Columns, MutColumns, given, held}
use Rattle.rules.specs.declared.Lists.{Lists}
use Rattle.rules.specs.Merged as merged_columns
use Rattle.rules.specs.Paired as paired_columns
use Rattle.rules.specs.Listed as listed_columns

module _ {P : Type 0} where
  pub given_reads : (starts ends : Columns P) (values : Columns ℤ) (counts : Columns ℕ) → given starts ends values counts ≡ record { starts = starts.entry.now; ends = ends.entry.now; values = values.entry.now; counts = counts.entry.now }
  given_reads starts ends values counts = refl

  pub held_reads : (l : Lists P) → held l ≡ record { starts = l.starts.now; ends = l.ends.now; values = l.values.now; counts = l.counts.now }
  held_reads l = refl

  module _ (start end : MutColumns P) (value : MutColumns ℤ) where
    pub merged_before_reads : merged_columns.before start end value ≡ record { start = start.entry.now; end = end.entry.now; value = value.entry.now }
    merged_before_reads = refl

    pub merged_after_reads : merged_columns.after start end value ≡ record { start = start.exit.now; end = end.exit.now; value = value.exit.now }
    merged_after_reads = refl

  module _ (start end : MutColumns P) (left right : MutColumns ℤ) (presence : MutColumns ℕ) where
    pub paired_before_reads : paired_columns.before start end left right presence ≡ record { start = start.entry.now; end = end.entry.now; left = left.entry.now; right = right.entry.now; presence = presence.entry.now }
    paired_before_reads = refl

    pub paired_after_reads : paired_columns.after start end left right presence ≡ record { start = start.exit.now; end = end.exit.now; left = left.exit.now; right = right.exit.now; presence = presence.exit.now }
    paired_after_reads = refl

  module _ (kind : MutColumns ℕ) (point : MutColumns P) (list : MutColumns ℕ) (value : MutColumns ℤ) where
    pub listed_before_reads : listed_columns.before kind point list value ≡ record { kind = kind.entry.now; point = point.entry.now; list = list.entry.now; value = value.entry.now }
    listed_before_reads = refl

    pub listed_after_reads : listed_columns.after kind point list value ≡ record { kind = kind.exit.now; point = point.exit.now; list = list.exit.now; value = value.exit.now }
    listed_after_reads = refl
