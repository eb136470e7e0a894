-- Events by their moments: a point's starts happen at an even moment and its ends at the next, so the order is by moment, then list. Assumes nothing.
use Rattle.std.specs.Prelude.{ℕ, ◌+◌, ◌*◌, ◌≤◌, ◌<◌, ◌≡◌, List, [], ◌∷◌}
use Rattle.rules.specs.Sweep.{Event, point, kind, list, All}

module _ {A : Type 0} where
  abbrev pub moment : Event A → ℕ
  moment e = 2 * point e + kind e

  pub record Before (a b : Event A) : Type 0 where
    pub no_later : moment a ≤ moment b
    pub tie : moment a ≡ moment b → list a < list b

  abbrev pub Sorted : List (Event A) → Type 0
  Sorted [] = Unit {0}
  Sorted (e ∷ es) = All (Before e) es × Sorted es
