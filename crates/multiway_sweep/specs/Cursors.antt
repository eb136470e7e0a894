-- A sweep over lists: of each list the end of its active range, if one is active, and the ranges that have not started. Assumes nothing.
use Rattle.std.specs.Prelude.{ℕ, suc, ◌+◌, ◌≤◌, ◌<◌, ◌≡◌, List, [], ◌∷◌, length, get_or}
use Rattle.std.specs.declared.option.Option.{Option}
use Rattle.std.specs.declared.option.Option.TheVariants.{None, Some}
use Rattle.rules.specs.Piece.{Piece, Within}
use Rattle.rules.specs.Sweep.{Event, ends, own, sort}
use Rattle.multiway_sweep.specs.Lanes.{flat}

pub record Cursor (A : Type 0) : Type 0 where
  pub active : Option ℕ
  pub ranges : List (Piece A)

module _ {A : Type 0} where
  abbrev pub fresh : List (Piece A) → Cursor A
  fresh l = record { active = None; ranges = l }

  -- the events left of a list, and of lists
  abbrev pub begun : ℕ → Option ℕ → List (Event A) → List (Event A)
  begun k None es = es
  begun k (Some p) es = ends p k ∷ es

  abbrev pub lane : ℕ → Cursor A → List (Event A)
  lane k c = begun k c.active (own k c.ranges)

  abbrev pub lanes : ℕ → List (Cursor A) → List (List (Event A))
  lanes k [] = []
  lanes k (c ∷ cs) = lane k c ∷ lanes (suc k) cs

  unfoldable pub left : List (Cursor A) → List (Event A)
  left cs = sort (flat (lanes 0 cs))

  abbrev pub fresh_all : List (List (Piece A)) → List (Cursor A)
  fresh_all [] = []
  fresh_all (l ∷ ls) = fresh l ∷ fresh_all ls

  -- the ranges of a list that have not started lie past its active range, below n
  abbrev pub Past : ℕ → Option ℕ → List (Piece A) → Type 0
  Past n None xs = Within 0 n xs
  Past n (Some p) xs = Within (p + 1) n xs

  abbrev pub AllPast : ℕ → List (Cursor A) → Type 0
  AllPast n [] = Unit {0}
  AllPast n (c ∷ cs) = Past n c.active c.ranges × AllPast n cs

  -- a start at s of the list j is the next event; so is an end at p
  pub record StartNext (s j : ℕ) (cs : List (Cursor A)) : Type 0 where
    pub ends_later : (i q : ℕ) → i < length cs → (get_or cs i (fresh [])).active ≡ Some q → s ≤ q
    pub starts_later : (i : ℕ) (x : Piece A) (xs : List (Piece A)) → i < length cs → (get_or cs i (fresh [])).ranges ≡ x ∷ xs → s ≤ x.start
    pub lower : (i : ℕ) (x : Piece A) (xs : List (Piece A)) → i < length cs → (get_or cs i (fresh [])).ranges ≡ x ∷ xs → s ≡ x.start → j ≤ i

  pub record EndNext (p j : ℕ) (cs : List (Cursor A)) : Type 0 where
    pub starts_later : (i : ℕ) (x : Piece A) (xs : List (Piece A)) → i < length cs → (get_or cs i (fresh [])).ranges ≡ x ∷ xs → p < x.start
    pub ends_later : (i q : ℕ) → i < length cs → (get_or cs i (fresh [])).active ≡ Some q → p ≤ q
    pub lower : (i q : ℕ) → i < length cs → (get_or cs i (fresh [])).active ≡ Some q → p ≡ q → j ≤ i
