-- How the set of active lists is kept: in a heap of the lists that were entered, the highest on top, with a mark of each
-- list; one that ended stays in the heap until it comes to the top.
-- To keep the set in another way, replace this file (another `Fields`, `seen` and `Keeps`), the struct and the bodies in src/lib.rt
-- and the proofs but `Sets` and `Stands`; the contracts there, `Active.antt` and every caller stay as they are. Assumes nothing.
use Rattle.std.specs.Prelude.{ℕ, ◌-◌, ◌<◌, ◌≤◌, ◌≡◌, Bool, true, false, List, get_or, length, map}
use Rattle.heap.specs.Order.{Ordered, count}
use Rattle.active_lists.specs.Active.{Set, Active, bit, number}
use Rattle.active_lists.specs.declared.Heaped.{Heaped}
use Rattle.active_lists.specs.declared.Mark.{Mark}
use Rattle.active_lists.specs.declared.Mark.TheVariants.{Out, Ended, On}

-- an entry's place in the order: the higher list comes first
unfoldable pub rank : ℕ → ℕ
rank list = 255 - list

-- the ranks of what stands in the heap's places
abbrev pub ranks : Heaped → ℕ → ℕ
ranks heap i = rank (get_or heap.lists i 0)

abbrev pub is_on : Mark → Bool
is_on On = true
is_on Ended = false
is_on Out = false

abbrev pub is_in : Mark → Bool
is_in On = true
is_in Ended = true
is_in Out = false

abbrev pub mark : List Mark → ℕ → Mark
mark marks list = get_or marks list Out

-- the lists that are active, and those that are in the heap
abbrev pub on : List Mark → List Bool
on marks = map is_on marks

abbrev pub active : List Mark → Set
active marks list = is_on (mark marks list)

abbrev pub entered : List Mark → Set
entered marks list = is_in (mark marks list)

-- what is kept
pub record Fields : Type 0 where
  pub heap : Heaped
  pub marks : List Mark
  pub len : ℕ
  pub count : ℕ

-- the set that is active, which is all that contracts say of a value
abbrev pub seen : Fields → Active
seen a = on a.marks

-- the heap has what the marks tell
pub record Keeps (a : Fields) : Type 0 where
  pub whole : length a.marks ≡ 16
  pub counts : a.count ≡ number (active a.marks)
  pub long : a.len ≡ number (entered a.marks)
  pub ordered : Ordered (ranks a.heap) a.len
  -- each list that was entered stands in the heap once, and nothing else does
  pub once : (i : ℕ) → i < 16 → count (rank i) (ranks a.heap) a.len ≡ bit (entered a.marks i)
  pub only : (e : ℕ) → 0 < count e (ranks a.heap) a.len → 240 ≤ e
