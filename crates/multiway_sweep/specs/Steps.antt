-- What a step of the sweep promises: the head of the events that are left, and what is left then is the tail. Assumes nothing.
use Rattle.std.specs.Prelude.{ℕ, ◌<◌, ◌≤◌, ◌≡◌, ◌⊎◌, Bool, true, false, List, [], ◌∷◌, ℤ, pos, length, get_or}
use Rattle.std.specs.declared.option.Option.{Option}
use Rattle.std.specs.declared.option.Option.TheVariants.{None, Some}
use Rattle.heap.specs.Moved.{Top}
use Rattle.heap.specs.declared.Entry.{Entry}
use Rattle.rules.specs.Lists.{Width, Lent, keys}
use Rattle.rules.specs.Sweep as rules
use Rattle.multiway_sweep.specs.Stands.{View, Stands, Start as There}
use Rattle.multiway_sweep.specs.declared.Course.{Course}
use Rattle.multiway_sweep.specs.declared.Event.{Event}
use Rattle.multiway_sweep.specs.declared.Event.TheVariants.{Start, End}
use Rattle.multiway_sweep.specs.declared.Sweep.{Sweep}
use Rattle.multiway_sweep.specs.declared.SweepMut.{SweepMut}

-- an end is there, and no start comes before it or with it
abbrev pub Ends : Option Entry → Option Entry → Type 0
Ends next None = ⊥
Ends None (Some end) = Unit {0}
Ends (Some start) (Some end) = end.key < start.key

-- no end is there, or a start comes before it or with it
abbrev pub Starts : Option Entry → Option Entry → Type 0
Starts next None = Unit {0}
Starts None (Some end) = ⊥
Starts (Some start) (Some end) = start.key ≤ end.key

-- whether the earliest end comes before the next start, where there is one or none
pub record EndFirst (next end : Option Entry) (r : Bool) : Type 0 where
  pub yes : r ≡ true → Ends next end
  pub no : r ≡ false → Starts next end

abbrev pub event_of : Event → rules.Event ℤ
event_of (Start r list value) = rules.starts r.start list value
event_of (End key list) = rules.ends key list

-- a step that took no start
abbrev pub NoStart : Option Event → Type 0
NoStart None = Unit {0}
NoStart (Some (Start r list value)) = ⊥
NoStart (Some (End key list)) = Unit {0}

-- what holds of the event that a step took, and where it took none
abbrev pub On : (rules.Event ℤ → Type 0) → Type 0 → Option Event → Type 0
On Q N None = N
On Q N (Some e) = Q (event_of e)

-- the columns that a sweep reads
pub record Reading (P : Type 0) : Type 0 where
  pub starts : List P
  pub ends : List P
  pub values : List ℤ

abbrev pub reads : {P : Type 0} → Lent P → Reading P
reads l = record { starts = l.starts; ends = l.ends; values = l.values }

-- a list's place
abbrev pub course : List Course → ℕ → Course
course courses k = get_or courses k (record { next = 0; stop = 0 })

abbrev pub next_at : List Course → ℕ → ℕ
next_at courses k = (course courses k).next

abbrev pub stop_at : List Course → ℕ → ℕ
stop_at courses k = (course courses k).stop

abbrev pub view : Sweep → View
view s = record { next = next_at s.courses; stops = stop_at s.courses; starts = s.starts; active_ends = s.active_ends }

-- a sweep of lent parts, as one
abbrev pub whole : SweepMut → Sweep
whole s = record { courses = s.courses.now; starts = s.starts.now; active_ends = s.active_ends.now }

-- a sweep, and the events that are left
pub record Sweeping {P : Type 0} (w : Width P) (c : Reading P) (s : Sweep) (rest : List (rules.Event ℤ)) : Type 0 where
  pub starts_long : length c.starts ≡ length c.values
  pub ends_long : length c.ends ≡ length c.values
  pub courses_long : length s.courses ≡ 16
  pub stands : Stands w.points (keys w c.starts) (keys w c.ends) (λ i. get_or c.values i (pos 0)) (length c.values) (view s) rest

module _ {P : Type 0} (w : Width P) (c : Reading P) where
  -- of the events that are left e is the first, and a sweep has the others
  abbrev pub Took : Sweep → rules.Event ℤ → List (rules.Event ℤ) → Type 0
  Took s e left = (rest : List (rules.Event ℤ)) × (left ≡ e ∷ rest) × Sweeping w c s rest

  -- a step took the first of the events that are left, or none is
  abbrev pub Holds : Sweep → Option Event → List (rules.Event ℤ) → Type 0
  Holds s None left = left ≡ []
  Holds s (Some e) left = Took s (event_of e) left

  -- a range that starts has the end that stands at its list's next place
  abbrev pub Reaches : Sweep → Option Event → Type 0
  Reaches s None = Unit {0}
  Reaches s (Some (Start r list value)) = r.end ≡ keys w c.ends (next_at s.courses list)
  Reaches s (Some (End key list)) = Unit {0}

  -- from the sweep s to the sweep r
  abbrev pub Stepped : Sweep → Sweep → List (rules.Event ℤ) → Option Event → Type 0
  Stepped s r rest t = Reaches s t × Holds r t rest

  -- a sweep has come somewhere, whatever events are left
  abbrev pub Underway : Sweep → Type 0
  Underway s = (rest : List (rules.Event ℤ)) × Sweeping w c s rest

  -- from the sweep s to the sweep r a step takes what comes next, whatever events are left
  abbrev pub TakesNext : Sweep → Sweep → Option Event → Type 0
  TakesNext s r t = (rest : List (rules.Event ℤ)) → Sweeping w c s rest → Stepped s r rest t

  -- a start is the next event: it is on top of its heap, no end comes before it, and its range is there
  pub record Due (s : Sweep) (start : Entry) : Type 0 where
    pub first : Top s.starts (Some start)
    pub early : (s.active_ends.len ≡ 0) ⊎ ((end : Entry) × Top s.active_ends (Some end) × (start.key ≤ end.key))
    pub there : There (keys w c.starts) start.key start.list (length c.values) (view s)
    pub starts_long : length c.starts ≡ length c.values
    pub ends_long : length c.ends ≡ length c.values
    pub courses_long : length s.courses ≡ 16
