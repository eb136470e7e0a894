-- The tariff file: its three records, the table of operations, how a file is written and how it is read. Assumes nothing.
use Rattle.std.specs.Prelude.{ℕ, zero, suc, ◌+◌, ◌≤◌, ◌≡◌, Bool, true, false, cond, List, [], ◌∷◌, map, ltb, leb, eqb, ℤ, length, slice_get}
use Rattle.std.specs.declared.option.Option.{Option}
use Rattle.std.specs.declared.option.Option.TheVariants.{None, Some}
use Rattle.std.specs.declared.result.Result.TheVariants.{Ok, Err}
use Rattle.rules.specs.Lists.{instants, tracks, total}
use Rattle.rules.specs.Answer.{Judgement, judge_lists}
use Rattle.rules.specs.declared.Refusal.{Refusal as CallRefusal}
use Rattle.rules.specs.declared.Pairing.TheVariants.{Inner, Left, Full}
use Rattle.many_way_rules.specs.Combiners.{known}
use Rattle.many_way_rules.specs.Sheet.{Typed, Tariff, flat, lend}
use Rattle.many_way_rules.specs.declared.Admission.TheVariants.{Every, Any, Odd}
use Rattle.many_way_rules.specs.declared.Pick.TheVariants.{Highest}
use Rattle.tariff_file.specs.Layout.{Layout, Held, unsigned, signed, AllHold, record_bytes}
use Rattle.tariff_file.specs.Reader.{Parsed, stop, got, Reader, Fault, ◌then◌, one, many}
use Rattle.tariff_file.specs.declared.Refusal.{Refusal}
use Rattle.tariff_file.specs.declared.Refusal.TheVariants.{TooLong, WrongMark, CutShort, LeftOver, UnknownOperation, TooManyLists, NotTwoLists, UnknownCombiner, TooManyRanges}
use Rattle.tariff_file.specs.declared.Task.{Task}
use Rattle.tariff_file.specs.declared.Task.TheVariants.{Pair, Merge, Choose}

-- 4A 48, operation u8, combiner u8, list count u16
abbrev pub head_layout : Layout
head_layout = record { first = 0x4A; second = 0x48; fields = unsigned 1 ∷ unsigned 1 ∷ unsigned 2 ∷ [] }

-- 4A 4C, range count u16
abbrev pub list_layout : Layout
list_layout = record { first = 0x4A; second = 0x4C; fields = unsigned 2 ∷ [] }

-- 4A 52, start i64, end i64, value i32
abbrev pub range_layout : Layout
range_layout = record { first = 0x4A; second = 0x52; fields = signed 8 ∷ signed 8 ∷ signed 4 ∷ [] }

-- the operations from 1 on: two-way inner, left, full; inner, full; union, symmetric difference
abbrev pub operations : List Task
operations = Pair Inner ∷ Pair Left ∷ Pair Full ∷ Merge Every ∷ Merge Any ∷ Choose Highest Any ∷ Choose Highest Odd ∷ []

abbrev pub task_of : ℕ → Option Task
task_of zero = None
task_of (suc n) = slice_get operations n

-- a two-way operation asks for two lists
abbrev pub lists_right : Task → ℕ → Bool
lists_right (Pair p) n = eqb n 2
lists_right (Merge a) n = true
lists_right (Choose p a) n = true

-- a join asks for a combiner, the others for 0 in its place
abbrev pub combiner_right : Task → ℕ → Bool
combiner_right (Pair p) c = eqb c 0
combiner_right (Merge a) c = known c
combiner_right (Choose p a) c = eqb c 0

pub record Head : Type 0 where
  pub operation : ℕ
  pub combiner : ℕ

abbrev pub File : Type 0
File = Head × List (Tariff ℤ)

-- what the records hold
abbrev pub head_held : Head → ℕ → Held head_layout
head_held h n = (h.operation, (h.combiner, (n, tt)))

abbrev pub list_held : ℕ → Held list_layout
list_held n = (n, tt)

abbrev pub range_held : Typed ℤ ℤ → Held range_layout
range_held x = (x.start, (x.end, (x.value, tt)))

abbrev pub held_range : Held range_layout → Typed ℤ ℤ
held_range v = record { start = v.0; end = v.1.0; value = v.1.1.0 }

-- WRITING: a head, then each list's record and those of its ranges
abbrev pub range_records : Tariff ℤ → List (List ℕ)
range_records l = map (λ x. record_bytes range_layout (range_held x)) l

abbrev pub list_records : Tariff ℤ → List (List ℕ)
list_records l = record_bytes list_layout (list_held (length l)) ∷ range_records l

abbrev pub records : File → List (List ℕ)
records (h, ls) = record_bytes head_layout (head_held h (length ls)) ∷ flat (map list_records ls)

abbrev pub written : Head → List (Tariff ℤ) → List ℕ
written h ls = flat (records (h, ls))

-- READING
-- the first fault, where the test fails, or else the next
abbrev pub unless : Bool → (ℕ → Refusal) → Fault → Fault
unless true r next = next
unless false r next = Some r

-- 13, 1, 2, 7
abbrev pub asked_of : Option Task → ℕ → ℕ → Fault
asked_of None c n = Some UnknownOperation
asked_of (Some k) c n = unless (leb n 16) TooManyLists (unless (lists_right k n) NotTwoLists (unless (combiner_right k c) UnknownCombiner None))

abbrev pub head_fault : Held head_layout → Fault
head_fault v = asked_of (task_of v.0) v.1.0 v.1.1.0

-- 3 at the list whose count takes the total over
abbrev pub list_fault : ℕ → Held list_layout → Fault
list_fault before v = unless (leb (before + v.0) 2048) TooManyRanges None

unfoldable pub read_range : Reader (Typed ℤ ℤ)
unfolding one
read_range = one range_layout (λ v. None) then (λ v. got (held_range v))

unfoldable pub read_ranges : ℕ → Reader (Tariff ℤ)
unfolding read_range
read_ranges n = many {S = Unit {0}} (λ s. read_range) (λ s x. s) n tt

-- a list, after so many ranges
unfoldable pub read_list : ℕ → Reader (Tariff ℤ)
unfolding one read_ranges
read_list before = one list_layout (list_fault before) then (λ v. read_ranges v.0)

-- n lists, after so many ranges
unfoldable pub read_lists : ℕ → ℕ → Reader (List (Tariff ℤ))
unfolding read_list
read_lists n before = many read_list (λ so_far l. so_far + length l) n before

unfoldable pub read_file : Reader File
unfolding one read_lists
read_file = one head_layout head_fault then (λ v. read_lists v.1.1.0 0 then (λ ls. got (record { operation = v.0; combiner = v.1.0 }, ls)))

-- a refusal of the file, or of its first faulty range, or the head and the lists, which are lent as the columns `lend` of them
pub data Reading : Type 0 where
  refused : Refusal → Reading
  ill_formed : CallRefusal → Reading
  accepted : Head → List (Tariff ℤ) → Reading

-- 12 where bytes are left
abbrev pub finish : Parsed File → Reading
finish (stop r) = refused r
finish (got (h, ls) at []) = accepted h ls
finish (got (h, ls) at (x ∷ b)) = refused (LeftOver at)

-- the records of a file, whatever their ranges
unfoldable pub records_of : List ℕ → Reading
unfolding read_file
records_of b = let r = finish (read_file 0 b) in cond (ltb 45126 (length b)) (refused TooLong) r

-- 5 and 6, as the form checker gives them
abbrev pub formed : Judgement → Head → List (Tariff ℤ) → Reading
formed (Ok u) h ls = accepted h ls
formed (Err a) h ls = ill_formed a

abbrev pub checked : Reading → Reading
checked (refused r) = refused r
checked (ill_formed a) = ill_formed a
checked (accepted h ls) = formed (judge_lists (tracks instants (lend ls))) h ls

unfoldable pub read : List ℕ → Reading
unfolding records_of
read b = checked (records_of b)

-- the codes and numbers of a file's own refusals
abbrev pub code_of : Refusal → ℕ
code_of TooLong = 9
code_of (WrongMark at) = 10
code_of (CutShort at) = 11
code_of (LeftOver at) = 12
code_of (UnknownOperation at) = 13
code_of (TooManyLists at) = 1
code_of (NotTwoLists at) = 2
code_of (UnknownCombiner at) = 7
code_of (TooManyRanges at) = 3

abbrev pub number_of : Refusal → ℕ
number_of TooLong = 45126
number_of (WrongMark at) = at
number_of (CutShort at) = at
number_of (LeftOver at) = at
number_of (UnknownOperation at) = at
number_of (TooManyLists at) = at
number_of (NotTwoLists at) = at
number_of (UnknownCombiner at) = at
number_of (TooManyRanges at) = at

-- WHAT CAN BE WRITTEN
abbrev pub AllRanges : Tariff ℤ → Type 0
AllRanges [] = Unit {0}
AllRanges (x ∷ xs) = AllHold range_layout.fields (range_held x) × AllRanges xs

abbrev pub AllLists : List (Tariff ℤ) → Type 0
AllLists [] = Unit {0}
AllLists (l ∷ ls) = AllRanges l × AllLists ls

-- a head and lists that a file can hold
pub record Sound (h : Head) (ls : List (Tariff ℤ)) : Type 0 where
  pub task : Task
  pub operation_known : task_of h.operation ≡ Some task
  pub few_lists : length ls ≤ 16
  pub right_lists : lists_right task (length ls) ≡ true
  pub right_combiner : combiner_right task h.combiner ≡ true
  pub few_ranges : total (map length ls) ≤ 2048
  -- points are i64, values i32
  pub all_held : AllLists ls
