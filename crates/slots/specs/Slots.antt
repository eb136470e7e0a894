-- What the lists have, as the code holds it: sixteen values, and which of them are present. Assumes nothing.
use Rattle.std.specs.Prelude.{ℕ, zero, suc, ◌≤◌, ◌≡◌, Bool, false, cond, List, [], ◌∷◌, ℤ, pos, length, get_or}
use Rattle.std.specs.declared.option.Option.{Option}
use Rattle.std.specs.declared.option.Option.TheVariants.{None, Some}
use Rattle.rules.specs.Piece as pieces
use Rattle.rules.specs.Lists.{Columns}

pub record Slots : Type 0 where
  pub current : List ℤ
  pub present : List Bool

-- the places with some contents
abbrev pub slots_of : List ℤ → List Bool → Slots
slots_of current present = record { current = current; present = present }

-- the places at entry with other values, for what goes by presence alone
abbrev pub slots_with : List ℤ → Columns Bool → Slots
slots_with current present = record { current = current; present = present.entry.now }

-- what a place holds: its value, where it is present
abbrev pub slot : Slots → ℕ → Option ℤ
slot s i = cond (get_or s.present i false) (Some (get_or s.current i (pos 0))) None

-- what the n places from place i on hold
abbrev pub slots_from : Slots → ℕ → ℕ → List (Option ℤ)
slots_from s i zero = []
slots_from s i (suc n) = slot s i ∷ slots_from s (suc i) n

-- what so many lists have
abbrev pub active : ℕ → Slots → List (Option ℤ)
active lists s = slots_from s 0 lists

-- the values of so many lists, where they are present
abbrev pub values_of : ℕ → Slots → List ℤ
values_of lists s = pieces.present (active lists s)

-- so many of the lists, of which there are places for all, are present
pub record Counted (lists n : ℕ) (s : Slots) : Type 0 where
  pub few : lists ≤ 16
  pub count : n ≡ length (values_of lists s)
