-- Which points are admitted by what the lists have there, and which of the lists present a selection takes. Assumes nothing.
use Rattle.std.specs.Prelude.{Bool, true, false, cond, not, ◌&&◌, ◌||◌, List, [], ◌∷◌}
use Rattle.std.specs.declared.option.Option.{Option}
use Rattle.std.specs.declared.option.Option.TheVariants.{None}
use Rattle.rules.specs.Piece.{there}
use Rattle.many_way_rules.specs.declared.Admission.{Admission}
use Rattle.many_way_rules.specs.declared.Admission.TheVariants.{Every, Any, Odd}
use Rattle.many_way_rules.specs.declared.Pick.{Pick}
use Rattle.many_way_rules.specs.declared.Pick.TheVariants.{Highest}

module _ {A : Type 0} where
  abbrev pub in_every : List (Option A) → Bool
  in_every [] = true
  in_every (o ∷ os) = there o && in_every os

  abbrev pub in_any : List (Option A) → Bool
  in_any [] = false
  in_any (o ∷ os) = there o || in_any os

  abbrev pub in_odd : List (Option A) → Bool
  in_odd [] = false
  in_odd (o ∷ os) = let rest = in_odd os in cond (there o) (not rest) rest

  abbrev pub admitted : Admission → List (Option A) → Bool
  admitted Every os = in_every os
  admitted Any os = in_any os
  admitted Odd os = in_odd os

  -- what the last list has that is present
  abbrev pub highest : List (Option A) → Option A
  highest [] = None
  highest (o ∷ os) = let later = highest os in cond (there later) later o

  abbrev pub picked : Pick → List (Option A) → Option A
  picked Highest os = highest os
