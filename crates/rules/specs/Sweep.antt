-- The sweep: each range yields a start event and an end event, ordered by point, at one point starts before ends, then the lower list first. Assumes nothing.
use Rattle.std.specs.Prelude.{ℕ, suc, Bool, true, cond, ◌&&◌, ◌||◌, ◌⊎◌, ◌≡◌, List, [], ◌∷◌, ◌++◌, ltb, eqb}
use Rattle.rules.specs.Piece.{Piece}

-- at a point, in a list: a range with a value starts, or a range ends
pub data Event (A : Type 0) : Type 0 where
  starts : ℕ → ℕ → A → Event A
  ends : ℕ → ℕ → Event A

-- a is less than b, or they are equal and the rest decides
abbrev pub lex : ℕ → ℕ → Bool → Bool
lex a b rest = ltb a b || (eqb a b && rest)

module _ {A : Type 0} where
  abbrev pub point : Event A → ℕ
  point (starts p i v) = p
  point (ends p i) = p

  -- 0 for a start, 1 for an end
  abbrev pub kind : Event A → ℕ
  kind (starts p i v) = 0
  kind (ends p i) = 1

  -- the index of its list, from 0
  abbrev pub list : Event A → ℕ
  list (starts p i v) = i
  list (ends p i) = i

  abbrev pub before : Event A → Event A → Bool
  before a b = lex (point a) (point b) (lex (kind a) (kind b) (ltb (list a) (list b)))

  -- the events of the list numbered k, and of the lists from there on
  abbrev pub own : ℕ → List (Piece A) → List (Event A)
  own k [] = []
  own k (x ∷ xs) = starts x.start k x.value ∷ ends x.end k ∷ own k xs

  abbrev pub listed : ℕ → List (List (Piece A)) → List (Event A)
  listed k [] = []
  listed k (l ∷ ls) = own k l ++ listed (suc k) ls

  -- an event in its place among ordered ones
  abbrev pub put : Event A → List (Event A) → List (Event A)
  put e [] = e ∷ []
  put e (x ∷ xs) = let rest = put e xs in cond (before e x) (e ∷ x ∷ xs) (x ∷ rest)

  abbrev pub sort : List (Event A) → List (Event A)
  sort [] = []
  sort (e ∷ es) = put e (sort es)

  unfoldable pub events : List (List (Piece A)) → List (Event A)
  events ls = sort (listed 0 ls)

  abbrev pub All : (Event A → Type 0) → List (Event A) → Type 0
  All P [] = Unit {0}
  All P (e ∷ es) = P e × All P es

  abbrev pub In : Event A → List (Event A) → Type 0
  In e [] = ⊥
  In e (x ∷ xs) = (e ≡ x) ⊎ In e xs

  -- each event comes before every later one
  abbrev pub Ordered : List (Event A) → Type 0
  Ordered [] = Unit {0}
  Ordered (e ∷ es) = All (λ x. before e x ≡ true) es × Ordered es
