-- How a sweep begins: every list has its cursor at its first range, no range is active, and all events are left. Assumes nothing.
use Rattle.std.specs.Prelude.{ℕ, ◌≡◌, List, ℤ, length}
use Rattle.rules.specs.Piece.{AllWellFormed}
use Rattle.rules.specs.Lists.{Width, Lent, lists}
use Rattle.rules.specs.Sweep.{Event, events}
use Rattle.multiway_sweep.specs.Steps.{reads, Sweeping}
use Rattle.multiway_sweep.specs.declared.Sweep.{Sweep}

-- the events of the lists
abbrev pub events_of : {P : Type 0} → Width P → Lent P → List (Event ℤ)
events_of w l = events (lists w l)

-- whatever the ends and values, if the lists are well formed
abbrev pub Begins : {P : Type 0} → Width P → List P → List ℕ → Sweep → Type 0
Begins {P} w starts counts s =
    (ends : List P) (values : List ℤ) →
    length starts ≡ length values → length ends ≡ length values →
    let l : Lent P = record { starts = starts; ends = ends; values = values; counts = counts } in
    AllWellFormed w.points (lists w l) → Sweeping w (reads l) s (events_of w l)
