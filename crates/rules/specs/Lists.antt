-- Lists as they are lent: columns of starts, ends and values, and one count per list; lists lie end to end in list order. Assumes nothing.
use Rattle.std.specs.Prelude.{ℕ, zero, suc, ◌+◌, ◌-◌, ◌^◌, cond, List, [], ◌∷◌, ltb, ℤ, pos, negsuc, get_or}
use Rattle.std.specs.Borrow.{Bor, MutBor}
use denote.Triple.Both.{Both}
use Rattle.rules.specs.Piece.{Piece, Range}
use Rattle.rules.specs.declared.Lists.{Lists}

-- A kind of point: how many there are, the key of a point, which is its distance from the least, and the point with a key.
pub record Width (P : Type 0) : Type 0 where
  pub points : ℕ
  pub key : P → ℕ
  pub point : ℕ → P

unfoldable pub key64 : ℤ → ℕ
key64 (pos n) = 9223372036854775808 + n
key64 (negsuc n) = 9223372036854775807 - n

unfoldable pub point64 : ℕ → ℤ
point64 k = cond (ltb k 9223372036854775808) (negsuc (9223372036854775807 - k)) (pos (k - 9223372036854775808))

-- seats are u32
abbrev pub seats : Width ℕ
seats = record { points = 2 ^ 32; key = λ p. p; point = λ k. k }

-- instants are i64
abbrev pub instants : Width ℤ
instants = record { points = 2 ^ 64; key = key64; point = point64 }

pub record Lent (P : Type 0) : Type 0 where
  pub starts : List P
  pub ends : List P
  pub values : List ℤ
  pub counts : List ℕ

-- a column that is lent to be read, as a precondition sees it, and as a promise does, which can ask what it is at entry and at exit
abbrev pub Column : Type 0 → Type 0
Column A = Bor (List A)

abbrev pub Columns : Type 0 → Type 0
Columns A = Both (Column A) (Column A)

-- the same of a column that is lent to be written
abbrev pub MutColumn : Type 0 → Type 0
MutColumn A = MutBor (List A)

abbrev pub MutColumns : Type 0 → Type 0
MutColumns A = Both (MutColumn A) (MutColumn A)

-- what is lent to be read, in a precondition and in a promise
abbrev pub lent : {P : Type 0} → Column P → Column P → Column ℤ → Column ℕ → Lent P
lent s e v n = record { starts = s.now; ends = e.now; values = v.now; counts = n.now }

abbrev pub given : {P : Type 0} → Columns P → Columns P → Columns ℤ → Columns ℕ → Lent P
given s e v n = lent s.entry e.entry v.entry n.entry

-- the columns that lists hold
abbrev pub held : {P : Type 0} → Lists P → Lent P
held l = lent l.starts l.ends l.values l.counts

-- the range at place i starts at s i, ends at e i and has the value v i
module _ {A : Type 0} (s e : ℕ → ℕ) (v : ℕ → A) where
  abbrev pub range : ℕ → Piece A
  range i = record { start = s i; end = e i; value = v i }

  -- the n ranges from place i on
  abbrev pub ranges : ℕ → ℕ → List (Piece A)
  ranges i zero = []
  ranges i (suc n) = range i ∷ ranges (suc i) n

  -- the lists that lie end to end from place i on
  abbrev pub cut : ℕ → List ℕ → List (List (Piece A))
  cut i [] = []
  cut i (n ∷ ns) = ranges i n ∷ cut (i + n) ns

-- the sum of the counts, which does not wrap
abbrev pub total : List ℕ → ℕ
total [] = 0
total (n ∷ ns) = n + total ns

module _ {P : Type 0} (w : Width P) where
  -- the keys of a column, by place
  abbrev pub keys : List P → ℕ → ℕ
  keys l i = w.key (get_or l i (w.point 0))

  -- the lists with their values
  abbrev pub lists : Lent P → List (List Range)
  lists l = cut (keys l.starts) (keys l.ends) (λ i. get_or l.values i (pos 0)) 0 l.counts

  -- the lists with the place of each range, its flat index, in the place of its value
  abbrev pub tracks : Lent P → List (List (Piece ℕ))
  tracks l = cut (keys l.starts) (keys l.ends) (λ i. i) 0 l.counts
