-- What is judged before the ranges are looked at, and a range as it is judged. Assumes nothing.
use Rattle.std.specs.Prelude.{ℕ, ◌-◌, ◌≤◌, ◌<◌, ◌≡◌, ◌&&◌, not, List, ltb, eqb, length}
use Rattle.std.specs.declared.option.Option.TheVariants.{None}
use Rattle.std.specs.declared.result.Result.TheVariants.{Ok}
use Rattle.rules.specs.Piece.{Piece}
use Rattle.rules.specs.Lists.{Width, Lent, keys, ranges, total, tracks}
use Rattle.rules.specs.Answer.{Judgement, refuse, two_way, unknown_combiner, judge, judge_list, judge_lists}
use Rattle.rules.specs.Refusals.{Formed}
use Rattle.rules.specs.declared.Refusal.TheVariants.{TooManyLists, NotTwoLists, TooManyRanges, ColumnsDiffer, UnknownCombiner}
use Rattle.rules.specs.declared.Kind.{Kind}
use Rattle.form.specs.declared.Range.{Range}

-- a range with its flat index
abbrev pub piece : Range → ℕ → Piece ℕ
piece x i = record { start = x.start; end = x.end; value = i }

-- refusals 1, 2, 4, 3 and 7, by the lengths of starts, ends and values and by the counts
unfoldable pub judge_shape : Kind → ℕ → ℕ → ℕ → List ℕ → Judgement
judge_shape k s e v ns =
    refuse (ltb 16 (length ns)) TooManyLists
    (refuse (two_way k && not (eqb (length ns) 2)) NotTwoLists
    (refuse (not (eqb e s && eqb v s && eqb (total ns) s)) ColumnsDiffer
    (refuse (ltb 2048 s) TooManyRanges
    (refuse (unknown_combiner k) UnknownCombiner (Ok tt)))))

-- the same of what is lent
abbrev pub shape : {P : Type 0} → Kind → Lent P → Judgement
shape k l = judge_shape k (length l.starts) (length l.ends) (length l.values) l.counts

-- the columns reach up to a place
pub record Long {P : Type 0} (l : Lent P) (stop : ℕ) : Type 0 where
  pub starts_long : stop ≤ length l.starts
  pub ends_long : stop ≤ length l.ends
  pub values_long : stop ≤ length l.values

-- the ends at places from `from` up to but not `stop` are points
abbrev pub Low : {P : Type 0} → Width P → List P → ℕ → ℕ → Type 0
Low w ends from stop = (i : ℕ) → from ≤ i → i < stop → keys w ends i < w.points

-- the judgement of the list at places from `from` up to but not `stop`, and of the lists that lie end to end
abbrev pub one_list : {P : Type 0} → Width P → Lent P → ℕ → ℕ → Judgement
one_list w l from stop = judge_list None (ranges (keys w l.starts) (keys w l.ends) (λ i. i) from (stop - from))

abbrev pub end_to_end : {P : Type 0} → Width P → Lent P → Judgement
end_to_end w l = judge_lists (tracks w l)

-- r is the judgement of what is lent, and where nothing is refused it passes
pub record Judged {P : Type 0} (w : Width P) (k : Kind) (l : Lent P) (r : Judgement) : Type 0 where
  pub is : r ≡ judge w k l
  pub passes : r ≡ Ok tt → Formed w k l

-- r is the judgement j of places from `from` up to but not `stop`, and where it is sound their ends are points
pub record Looked {P : Type 0} (w : Width P) (l : Lent P) (from stop : ℕ) (j r : Judgement) : Type 0 where
  pub is : r ≡ j
  pub low : r ≡ Ok tt → Low w l.ends from stop
