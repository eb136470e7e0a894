-- The price at a point of columns with pieces: the place that is found, and what the piece there says of the point. Assumes nothing.
use Rattle.std.specs.Prelude.{ℕ, zero, suc, ◌+◌, ◌-◌, ◌/◌, min, ◌≡◌, ltb, leb, ℤ, pos, get_or}
use Rattle.std.proofs.Math.Bool.{cond}
use Rattle.std.specs.declared.option.Option.{Option}
use Rattle.std.specs.declared.option.Option.TheVariants.{None, Some}
use Rattle.rules.specs.Piece.{Piece, Range, holds}
use Rattle.rules.specs.Lists.{Width, keys, range}
use Rattle.rules.specs.Merged.{Merged, columns, room}
use Rattle.price.specs.declared.Pieces.{Pieces}

-- the columns that pieces hold
abbrev pub held : {P : Type 0} → Pieces P → Merged P
held c = columns c.start.now c.end.now c.value.now

module _ (start : ℕ → ℕ) (p : ℕ) where
  -- so many halvings of the n places from b on, while they are more than m: to the upper half where its first start is not beyond p,
  -- else to the lower
  unfoldable pub halve : ℕ → ℕ → ℕ → ℕ → ℕ
  halve m zero b n = b
  halve m (suc turns) b n = let h = n / 2 in cond (ltb m n) (halve m turns (cond (leb (start (b + h)) p) (b + h) b) (n - h)) b

  -- 1 where the start at a place is not beyond p, else 0
  abbrev pub begun : ℕ → ℕ
  begun i = cond (leb (start i) p) 1 0

  -- how many of the n places after b have begun
  unfoldable pub count : ℕ → ℕ → ℕ
  count b zero = 0
  count b (suc n) = count b n + begun (b + suc n)

  -- the one of n places that is found: of fewer than 16 by halving alone; of more, halving comes to 16, and those after the first of
  -- them that have begun are counted
  abbrev pub found : ℕ → ℕ
  found n = let b = min (halve 16 n 0 n) (n - 16) in cond (ltb n 16) (halve 1 n 0 n) (b + count b 15)

-- what a piece says of a point
abbrev pub charge : {A : Type 0} → Piece A → ℕ → Option A
charge x p = cond (holds x p) (Some x.value) None

-- the places that count: those below n that all three columns have
abbrev pub places : {P : Type 0} → Merged P → ℕ → ℕ
places c n = min n (room c)

module _ {P : Type 0} (w : Width P) where
  -- the piece at a place of the columns
  abbrev pub piece : Merged P → ℕ → Range
  piece c i = range (keys w c.start) (keys w c.end) (λ j. get_or c.value j (pos 0)) i

  -- the price at the point with the key p
  unfoldable pub price_at : Merged P → ℕ → ℕ → Option ℤ
  unfolding halve
  price_at c n p =
      let m = places c n in
      cond (ltb 0 m) (charge (piece c (found (keys w c.start) p m)) p) None

-- a price as it is written: its value, or 0, and whether there is one
abbrev pub pence : Option ℤ → ℤ
pence None = pos 0
pence (Some v) = v

abbrev pub presence : Option ℤ → ℕ
presence None = 0
presence (Some v) = 1

-- what a C function says of a price: 1 comes back and the value is written, or 0 and 0
pub record Told (x : Option ℤ) (r : ℕ) (v : ℤ) : Type 0 where
  pub presence_back : r ≡ presence x
  pub value_written : v ≡ pence x
