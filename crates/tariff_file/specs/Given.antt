-- When each refusal of a file is due, said of its bytes and not of how they are read, and the order. Assumes nothing.
use Rattle.std.specs.Prelude.{ℕ, ◌+◌, ◌≤◌, ◌<◌, ◌≡◌, ◌≢◌, false, List, [], ◌∷◌, ◌++◌, map, ℤ, length, take, drop}
use Rattle.std.specs.declared.option.Option.TheVariants.{None, Some}
use Rattle.rules.specs.Lists.{total}
use Rattle.many_way_rules.specs.Sheet.{Tariff, flat}
use Rattle.tariff_file.specs.Layout.{Layout, Held, sizes, values, record_bytes}
use Rattle.tariff_file.specs.File.{head_layout, list_layout, range_layout, task_of, lists_right, combiner_right, Head, head_held, list_held, range_records, list_records, records, AllRanges, AllLists, Sound}
use Rattle.tariff_file.specs.declared.Refusal.{Refusal}
use Rattle.tariff_file.specs.declared.Refusal.TheVariants.{TooLong, WrongMark, CutShort, LeftOver, UnknownOperation, TooManyLists, NotTwoLists, UnknownCombiner, TooManyRanges}
use Rattle.tariff_file.specs.declared.Task.{Task}

-- from the place `from` on the bytes b are the records rs, and from the place `at` on c
pub record Whole (rs : List (List ℕ)) (from : ℕ) (b : List ℕ) (at : ℕ) (c : List ℕ) : Type 0 where
  pub same : b ≡ flat rs ++ c
  pub place : at ≡ from + length (flat rs)

-- up to the place `at`, whole and without fault: the head of some file, and fewer lists than it says
pub record AtList (b : List ℕ) (at : ℕ) (c : List ℕ) : Type 0 where
  pub head : Head
  pub said : List (Tariff ℤ)
  pub sound : Sound head said
  pub done : List (Tariff ℤ)
  pub fewer : length done < length said
  pub few_ranges : total (map length done) ≤ 2048
  pub all_held : AllLists done
  pub whole : Whole (record_bytes head_layout (head_held head (length said)) ∷ flat (map list_records done)) 0 b at c

-- after that a list's record that keeps within 2,048, and fewer ranges than it says
pub record AtRange (b : List ℕ) (at : ℕ) (c : List ℕ) : Type 0 where
  pub place : ℕ
  pub rest : List ℕ
  pub lists : AtList b place rest
  pub said : ℕ
  pub few_ranges : total (map length lists.done) + said ≤ 2048
  pub done : Tariff ℤ
  pub fewer : length done < said
  pub all_held : AllRanges done
  pub whole : Whole (record_bytes list_layout (list_held said) ∷ range_records done) place rest at c

-- a record of a layout is awaited at a place, with the bytes from there on
pub data Awaiting (b : List ℕ) : Layout → ℕ → List ℕ → Type 0 where
  the_head : Awaiting b head_layout 0 b
  a_list : {at : ℕ} {c : List ℕ} → AtList b at c → Awaiting b list_layout at c
  a_range : {at : ℕ} {c : List ℕ} → AtRange b at c → Awaiting b range_layout at c

-- what bytes say as a record of a layout, whatever their mark
abbrev pub said_by : (l : Layout) → List ℕ → Held l
said_by l c = values l.fields (drop 2 c)

module _ (b : List ℕ) where
  abbrev pub operation : ℕ
  operation = (said_by head_layout b).0

  abbrev pub combiner : ℕ
  combiner = (said_by head_layout b).1.0

  abbrev pub lists : ℕ
  lists = (said_by head_layout b).1.1.0

  abbrev pub Due : Refusal → Type 0
  Due TooLong = 45126 < length b
  Due (WrongMark at) = (l : Layout) × (c : List ℕ) × Awaiting b l at c × (2 ≤ length c) × (take 2 c ≢ l.first ∷ l.second ∷ [])
  Due (CutShort at) = (l : Layout) × (c : List ℕ) × Awaiting b l at c × (length c < 2 + sizes l.fields)
  Due (UnknownOperation at) = (at ≡ 0) × (task_of operation ≡ None)
  Due (TooManyLists at) = (at ≡ 0) × (16 < lists)
  Due (NotTwoLists at) = (at ≡ 0) × (k : Task) × (task_of operation ≡ Some k) × (lists_right k lists ≡ false)
  Due (UnknownCombiner at) = (at ≡ 0) × (k : Task) × (task_of operation ≡ Some k) × (combiner_right k combiner ≡ false)
  Due (TooManyRanges at) = (c : List ℕ) × (g : AtList b at c) × (2048 < total (map length g.done) + (said_by list_layout c).0)
  Due (LeftOver at) = (h : Head) × (ls : List (Tariff ℤ)) × (c : List ℕ) × Sound h ls × Whole (records (h, ls)) 0 b at c × (0 < length c)

-- 9; then of a record 10, 11 and what its values are refused for. A record is awaited only behind those without fault, so that of two places the first comes first.
abbrev pub turn : Refusal → ℕ
turn TooLong = 0
turn (WrongMark at) = 1
turn (CutShort at) = 2
turn (UnknownOperation at) = 3
turn (TooManyLists at) = 4
turn (NotTwoLists at) = 5
turn (UnknownCombiner at) = 6
turn (TooManyRanges at) = 7
turn (LeftOver at) = 8

-- a refusal is given exactly when it is due and none of an earlier turn is
abbrev pub Given : List ℕ → Refusal → Type 0
Given b r = Due b r × ((q : Refusal) → turn q < turn r → Due b q → ⊥)
