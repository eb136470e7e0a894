-- Pieces: inclusive ranges of points, each with a value. A point is told by its key, its distance from the least point. Assumes nothing.
use Rattle.std.specs.Prelude.{ℕ, ◌+◌, ◌≤◌, ◌≡◌, ◌≢◌, Bool, true, false, cond, ◌&&◌, List, [], ◌∷◌, map, ℤ, leb}
use Rattle.std.specs.declared.option.Option.{Option}
use Rattle.std.specs.declared.option.Option.TheVariants.{None, Some}

pub record Piece (A : Type 0) : Type 0 where
  pub start : ℕ
  pub end : ℕ
  pub value : A

-- a range of a tariff: its value is whole pence
abbrev pub Range : Type 0
Range = Piece ℤ

module _ {A : Type 0} where
  -- p is one of the points of x
  abbrev pub holds : Piece A → ℕ → Bool
  holds x p = leb x.start p && leb p x.end

  -- the value of the first piece that holds p
  abbrev pub at : List (Piece A) → ℕ → Option A
  at [] p = None
  at (x ∷ xs) p = let rest = at xs p in cond (holds x p) (Some x.value) rest

  -- what each of some lists has at p, in list order
  abbrev pub column : List (List (Piece A)) → ℕ → List (Option A)
  column ls p = map (λ l. at l p) ls

  -- whether a list has something there
  abbrev pub there : Option A → Bool
  there None = false
  there (Some v) = true

  -- the values of the lists present, in list order
  abbrev pub present : List (Option A) → List A
  present [] = []
  present (None ∷ os) = present os
  present (Some v ∷ os) = v ∷ present os

  -- the pieces ascend, none empty, among the points from c up to but not n
  abbrev pub Within : ℕ → ℕ → List (Piece A) → Type 0
  Within c n [] = c ≤ n
  Within c n (x ∷ xs) = (c ≤ x.start) × (x.start ≤ x.end) × Within (x.end + 1) n xs

  -- a list over n points is well formed when each start is at most its end, and each start but the first exceeds the end before it
  abbrev pub WellFormed : ℕ → List (Piece A) → Type 0
  WellFormed n xs = Within 0 n xs

  abbrev pub AllWellFormed : ℕ → List (List (Piece A)) → Type 0
  AllWellFormed n [] = Unit {0}
  AllWellFormed n (l ∷ ls) = WellFormed n l × AllWellFormed n ls

  -- the first piece, if it starts at c, has another value than v
  abbrev pub Apart : ℕ → A → List (Piece A) → Type 0
  Apart c v [] = Unit {0}
  Apart c v (x ∷ xs) = c ≡ x.start → v ≢ x.value

  -- pieces that touch carry different values
  abbrev pub Differ : List (Piece A) → Type 0
  Differ [] = Unit {0}
  Differ (x ∷ xs) = Apart (x.end + 1) x.value xs × Differ xs

  -- the form of condition 3: ascending, and touching pieces differ
  abbrev pub Canonical : ℕ → List (Piece A) → Type 0
  Canonical n xs = WellFormed n xs × Differ xs
