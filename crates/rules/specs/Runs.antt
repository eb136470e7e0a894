-- Every operation is a point rule, and its answer is the list of maximal runs of that rule. A rule says of what the lists have at a point: not admitted, or admitted with this value. Assumes nothing.
use Rattle.std.specs.Prelude.{ℕ, pred, ◌+◌, Bool, true, false, cond, ◌&&◌, List, [], ◌∷◌, ltb, eqb}
use Rattle.std.specs.declared.option.Option.{Option}
use Rattle.std.specs.declared.option.Option.TheVariants.{None, Some}
use Rattle.rules.specs.Piece.{Piece, column}

-- a cut in its place among ascending ones, once
abbrev pub enter : ℕ → List ℕ → List ℕ
enter k [] = k ∷ []
enter k (c ∷ cs) = let rest = enter k cs in cond (ltb k c) (k ∷ c ∷ cs) (cond (eqb k c) (c ∷ cs) (c ∷ rest))

module _ {A : Type 0} where
  -- the points at which a list may change, put into cs: each start, and the point after each end
  abbrev pub edges : List (Piece A) → List ℕ → List ℕ
  edges [] cs = cs
  edges (x ∷ xs) cs = enter x.start (enter (x.end + 1) (edges xs cs))

  unfoldable pub cuts : List (List (Piece A)) → List ℕ
  cuts [] = []
  cuts (l ∷ ls) = edges l (cuts ls)

  -- the cuts of the lists, and the two ends of a line of n points
  unfoldable pub line : ℕ → List (List (Piece A)) → List ℕ
  unfolding cuts
  line n ls = enter 0 (enter n (cuts ls))

module _ {B : Type 0} (same : B → B → Bool) where
  -- x and y touch and have one value
  abbrev pub touch : Piece B → Piece B → Bool
  touch x y = eqb (x.end + 1) y.start && same x.value y.value

  -- y right after x: one piece where merged
  abbrev pub attach : Bool → Piece B → Piece B → List (Piece B)
  attach true x y = record { start = x.start; end = y.end; value = x.value } ∷ []
  attach false x y = x ∷ y ∷ []

  -- one more piece at the end
  abbrev pub push : List (Piece B) → Piece B → List (Piece B)
  push [] y = y ∷ []
  push (x ∷ []) y = attach (touch x y) x y
  push (x ∷ z ∷ zs) y = x ∷ push (z ∷ zs) y

  -- the points from c up to but not d, all of them with what o says
  abbrev pub extend : Option B → ℕ → ℕ → List (Piece B) → List (Piece B)
  extend None c d xs = xs
  extend (Some v) c d xs = push xs (record { start = c; end = pred d; value = v })

  -- from each cut to the next what f says at the first of its points
  abbrev pub fill : (ℕ → Option B) → ℕ → List ℕ → List (Piece B) → List (Piece B)
  fill f c [] xs = xs
  fill f c (d ∷ ds) xs = fill f d ds (extend (f c) c d xs)

  unfoldable pub pieces : (ℕ → Option B) → List ℕ → List (Piece B)
  pieces f [] = []
  pieces f (c ∷ cs) = fill f c cs []

-- what a rule says of a point
abbrev pub says : {A B : Type 0} → (List (Option A) → Option B) → List (List (Piece A)) → ℕ → Option B
says rule ls p = rule (column ls p)

-- the maximal runs of a rule over a line of n points
unfoldable pub runs : {A B : Type 0} → (B → B → Bool) → (List (Option A) → Option B) → ℕ → List (List (Piece A)) → List (Piece B)
unfolding pieces line
runs same rule n ls = pieces same (says rule ls) (line n ls)
