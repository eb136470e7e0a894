-- What the contracts of the event listing say of columns: the events stand at their front. Assumes nothing.
use Rattle.std.specs.Prelude.{ℕ, ◌≤◌, ◌<◌, ◌≡◌, cond, leb, ℤ, length, set}
use Rattle.std.specs.declared.result.Result.TheVariants.{Ok, Err}
use Rattle.rules.specs.Lists.{Width, Lent}
use Rattle.rules.specs.Answer.{Answer}
use Rattle.rules.specs.Refusals.{Formed}
use Rattle.rules.specs.Sweep.{Event, point, kind, list}
use Rattle.rules.specs.Listed.{Listed, event_value, output, room, lay}
use Rattle.rules.specs.declared.Refusal.TheVariants.{NoRoom}
use Rattle.rules.specs.declared.Kind.TheVariants.{Listing}
use Rattle.multiway_sweep.specs.Begins.{events_of}
use Rattle.event_listing.specs.declared.Row.{Row}
use Rattle.event_listing.specs.declared.Columns.{Columns}

-- the answer of an operation that nothing refuses before the room is looked at
abbrev pub answer_for : ℕ → ℕ → Answer
answer_for needed room = cond (leb needed room) (Ok needed) (Err (NoRoom needed))

-- the row of an event
pub record RowOf (e : Event ℤ) (r : Row) : Type 0 where
  pub kind : r.kind ≡ kind e
  pub key : r.key ≡ point e
  pub list : r.list ≡ list e
  pub value : r.value ≡ event_value e

-- what the columns hold
abbrev pub columns_of : {P : Type 0} → Columns P → Listed P
columns_of c = output c.kind c.point c.list c.value

-- r has the columns that s has, lent by the same
pub record Same {P : Type 0} (s r : Columns P) : Type 0 where
  pub kind : r.kind.ghost_name ≡ s.kind.ghost_name
  pub point : r.point.ghost_name ≡ s.point.ghost_name
  pub list : r.list.ghost_name ≡ s.list.ghost_name
  pub value : r.value.ghost_name ≡ s.value.ghost_name

module _ {P : Type 0} (w : Width P) where
  -- there is a place n for a row, whose point can be written
  pub record Writable (n : ℕ) (r : Row) (c : Listed P) : Type 0 where
    pub place : n < room c
    pub point : r.key < w.points

  -- the columns with a row at place n
  pub record PutRow (n : ℕ) (r : Row) (c d : Listed P) : Type 0 where
    pub kind : d.kind ≡ set c.kind n r.kind
    pub point : d.point ≡ set c.point n (w.point r.key)
    pub list : d.list ≡ set c.list n r.list
    pub value : d.value ≡ set c.value n r.value

  -- lists that the form checker passes, and room for their events
  pub record Listable (l : Lent P) (c : Listed P) : Type 0 where
    pub formed : Formed w Listing l
    pub enough : length (events_of w l) ≤ room c

  -- all events are written
  pub record Wrote (l : Lent P) (c d : Listed P) : Type 0 where
    pub is : d ≡ lay w 0 (events_of w l) c
