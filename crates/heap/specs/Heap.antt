-- A heap of entries, the key of a point with a list. Assumes nothing.
use Rattle.std.specs.Prelude.{ℕ, ◌+◌, ◌-◌, ◌*◌, ◌≤◌, ◌≡◌, get_or}
use Rattle.heap.specs.Order.{Ordered, one, count}
use Rattle.heap.specs.declared.Entry.{Entry}
use Rattle.heap.specs.declared.Entries.{Entries}

-- an entry's place in the order: by its key, and then by its list, which is a byte
unfoldable pub rank : ℕ → ℕ → ℕ
rank key list = key * 256 + list

abbrev pub rank_of : Entry → ℕ
rank_of e = rank e.key e.list

-- the rank at each place
abbrev pub ranks : Entries → ℕ → ℕ
ranks p i = rank (get_or p.keys i 0) (get_or p.lists i 0)

-- the first n places are a heap
pub record Heap (f : ℕ → ℕ) (n : ℕ) : Type 0 where
  pub small : n ≤ 16
  pub ordered : Ordered f n

-- a heap of one entry more, v
pub record Pushed (f g : ℕ → ℕ) (n v : ℕ) : Type 0 where
  pub heap : Heap g (n + 1)
  pub kept : (e : ℕ) → count e g (n + 1) ≡ count e f n + one e v

-- a heap of one entry less, the top
pub record Popped (f g : ℕ → ℕ) (n : ℕ) : Type 0 where
  pub heap : Heap g (n - 1)
  pub kept : (e : ℕ) → count e g (n - 1) + one e (f 0) ≡ count e f n

-- a heap that has v for the top
pub record Topped (f g : ℕ → ℕ) (n v : ℕ) : Type 0 where
  pub heap : Heap g n
  pub kept : (e : ℕ) → count e g n + one e (f 0) ≡ count e f n + one e v
