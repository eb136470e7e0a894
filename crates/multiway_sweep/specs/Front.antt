-- What is active at the frontier: events stand at a moment, those passed happened by then, and each list has the value of its active range. Assumes nothing.
use Rattle.std.specs.Prelude.{ℕ, ◌+◌, ◌≤◌, ◌≡◌, List, [], ◌∷◌, ◌++◌, set}
use Rattle.std.specs.declared.option.Option.{Option}
use Rattle.std.specs.declared.option.Option.TheVariants.{None, Some}
use Rattle.rules.specs.Piece.{Piece}
use Rattle.rules.specs.Sweep.{Event, starts, ends, point, kind, list, events, All}
use Rattle.rules.specs.Proving.Below.{nones}
use Rattle.rules.specs.Proving.Moments.{moment}

module _ {A : Type 0} where
  -- what the list has from the event on
  abbrev pub value_from : Event A → Option A
  value_from (starts p i v) = Some v
  value_from (ends p i) = None

  -- the first point whose column the event bears on
  abbrev pub edge : Event A → ℕ
  edge e = point e + kind e

  -- what the lists have once an event, or events, have passed
  abbrev pub apply : Event A → List (Option A) → List (Option A)
  apply e act = set act (list e) (value_from e)

  abbrev pub run : List (Event A) → List (Option A) → List (Option A)
  run [] act = act
  run (e ∷ es) act = run es (apply e act)

  -- events stand at the moment t: those passed happened by then, those left do not happen before; act is what the lists have
  pub record Front (ls : List (List (Piece A))) (t : ℕ) (left : List (Event A)) (act : List (Option A)) : Type 0 where
    pub passed : List (Event A)
    pub whole : passed ++ left ≡ events ls
    pub state : act ≡ run passed (nones ls)
    pub low : All (λ e. moment e ≤ t) passed
    pub high : All (λ e. t ≤ moment e) left

  -- the next event, if there is one, happens at t or later
  abbrev pub Next : ℕ → List (Event A) → Type 0
  Next t [] = Unit {0}
  Next t (e ∷ es) = t ≤ moment e
