-- What is left of each list's events, while they are merged. Assumes nothing.
use Rattle.std.specs.Prelude.{ℕ, suc, ◌<◌, ◌≡◌, ◌≢◌, List, [], ◌∷◌, ◌++◌}
use Rattle.rules.specs.Piece.{Piece}
use Rattle.rules.specs.Sweep.{Event, list, own, All}
use Rattle.rules.specs.Proving.Moments.{moment, Before}

module _ {A : Type 0} where
  abbrev pub flat : List (List (Event A)) → List (Event A)
  flat [] = []
  flat (r ∷ rs) = r ++ flat rs

  -- all events of each list, from the list numbered k on
  abbrev pub owns : ℕ → List (List (Piece A)) → List (List (Event A))
  owns k [] = []
  owns k (l ∷ ls) = own k l ∷ owns (suc k) ls

  -- the events of a list k, each after the one before
  abbrev pub Lane : ℕ → List (Event A) → Type 0
  Lane k [] = Unit {0}
  Lane k (e ∷ es) = (list e ≡ k) × All (λ x. moment e < moment x) es × Lane k es

  abbrev pub Lanes : ℕ → List (List (Event A)) → Type 0
  Lanes k [] = Unit {0}
  Lanes k (r ∷ rs) = Lane k r × Lanes (suc k) rs

  -- e is before the first of them
  abbrev pub Ahead : Event A → List (Event A) → Type 0
  Ahead e [] = Unit {0}
  Ahead e (x ∷ xs) = Before e x

  -- e is before the first of every lane but the one numbered j, counted from i
  abbrev pub Leads : Event A → ℕ → ℕ → List (List (Event A)) → Type 0
  Leads e j i [] = Unit {0}
  Leads e j i (r ∷ rs) = (i ≢ j → Ahead e r) × Leads e j (suc i) rs
