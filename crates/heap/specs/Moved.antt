-- How a heap changes: its top, and what it has. Assumes nothing.
use Rattle.std.specs.Prelude.{ℕ, ◌+◌, ◌<◌, ◌≡◌}
use Rattle.std.specs.declared.option.Option.{Option}
use Rattle.std.specs.declared.option.Option.TheVariants.{None, Some}
use Rattle.heap.specs.Order.{one, count}
use Rattle.heap.specs.Heap.{rank_of, ranks}
use Rattle.heap.specs.declared.Entry.{Entry}
use Rattle.heap.specs.declared.Heap.{Heap}

-- the rank of the top
abbrev pub top : Heap → ℕ
top h = ranks h.places 0

-- how many entries have the rank e
abbrev pub many : Heap → ℕ → ℕ
many h e = count e (ranks h.places) h.len

-- r is the entry on top, if there is one
abbrev pub Top : Heap → Option Entry → Type 0
Top h None = h.len ≡ 0
Top h (Some e) = (0 < h.len) × (e.list < 256) × (top h ≡ rank_of e)

-- one entry more, v
pub record Pushed (h r : Heap) (v : ℕ) : Type 0 where
  pub longer : r.len ≡ h.len + 1
  pub kept : (e : ℕ) → many r e ≡ many h e + one e v

-- one entry less, the top
pub record Popped (h r : Heap) : Type 0 where
  pub shorter : r.len + 1 ≡ h.len
  pub kept : (e : ℕ) → many r e + one e (top h) ≡ many h e

-- v in the place of the top
pub record Topped (h r : Heap) (v : ℕ) : Type 0 where
  pub as_long : r.len ≡ h.len
  pub kept : (e : ℕ) → many r e + one e (top h) ≡ many h e + one e v
