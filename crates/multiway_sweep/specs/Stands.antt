-- Where a sweep stands: of each list the place of its next range and the place past its last, a heap of the starts of the next ranges, and a heap of the ends of the active ones. Assumes nothing.
use Rattle.std.specs.Prelude.{ℕ, ◌+◌, ◌-◌, ◌<◌, ◌≤◌, ◌≡◌, List, [], ◌∷◌, length, get_or}
use Rattle.std.specs.declared.option.Option.{Option}
use Rattle.std.specs.declared.option.Option.TheVariants.{None, Some}
use Rattle.heap.specs.Order.{one}
use Rattle.heap.specs.Heap.{rank}
use Rattle.heap.specs.Moved.{many}
use Rattle.heap.specs.declared.Heap.{Heap}
use Rattle.rules.specs.Piece.{Piece}
use Rattle.rules.specs.Lists.{ranges}
use Rattle.rules.specs.Sweep.{Event}
use Rattle.multiway_sweep.specs.Cursors.{Cursor, fresh, left, AllPast}

-- what is to be known of a sweep
pub record View : Type 0 where
  pub next : ℕ → ℕ
  pub stops : ℕ → ℕ
  pub starts : Heap
  pub active_ends : Heap

-- how often an entry with the key k stands for what a list has
abbrev pub times : Option ℕ → ℕ → ℕ
times None k = 0
times (Some p) k = one p k

-- 1 where a list has something
abbrev pub amount : Option ℕ → ℕ
amount None = 0
amount (Some p) = 1

-- a heap holds, for each list i that has one, the key f i
pub record Entered (h : Heap) (f : ℕ → Option ℕ) : Type 0 where
  pub has : (key list : ℕ) → list < 256 → many h (rank key list) ≡ times (f list) key

module _ {A : Type 0} where
  abbrev pub first_start : List (Piece A) → Option ℕ
  first_start [] = None
  first_start (x ∷ xs) = Some x.start

  abbrev pub at : List (Cursor A) → ℕ → Cursor A
  at cs i = get_or cs i (fresh [])

  -- how many lists have an active range
  abbrev pub actives : List (Cursor A) → ℕ
  actives [] = 0
  actives (c ∷ cs) = amount c.active + actives cs

  -- over n points and columns of a length: the cursors that a sweep stands for, and the events that are left
  pub record Stands (n : ℕ) (s e : ℕ → ℕ) (v : ℕ → A) (long : ℕ) (x : View) (rest : List (Event A)) : Type 0 where
    pub cursors : List (Cursor A)
    pub few : length cursors ≤ 16
    pub past : AllPast n cursors
    pub lies : (i : ℕ) → i < length cursors → (at cursors i).ranges ≡ ranges s e v (x.next i) (x.stops i - x.next i)
    pub inside : (i : ℕ) → i < length cursors → x.stops i ≤ long
    pub entered_starts : Entered x.starts (λ i. first_start (at cursors i).ranges)
    pub entered_ends : Entered x.active_ends (λ i. (at cursors i).active)
    pub counted : x.active_ends.len ≡ actives cursors
    pub is_left : left cursors ≡ rest

-- the list j starts its next range at the key: it is there, and there is room for its end
pub record Start (s : ℕ → ℕ) (key j long : ℕ) (x : View) : Type 0 where
  pub few : j < 16
  pub more : x.next j < x.stops j
  pub within : x.stops j ≤ long
  pub is : key ≡ s (x.next j)
  pub room : x.active_ends.len < 16
