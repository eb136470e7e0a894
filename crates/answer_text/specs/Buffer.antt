-- A text in a lent buffer. Assumes nothing.
use Rattle.std.specs.declared.option.Option.{Option}
use Rattle.std.specs.declared.option.Option.TheVariants.{None, Some}
use Rattle.std.specs.Prelude.{ℕ, ◌+◌, ◌≤◌, ◌≡◌, cond, List, ◌++◌, leb, length, take, drop}

-- what a printing call leaves: the count that it answers, and the buffer
pub record Print : Type 0 where
  pub count : ℕ
  pub buffer : List ℕ

abbrev pub leaves : ℕ → List ℕ → Print
leaves n b = record { count = n; buffer = b }

-- the text at the front and its length, or nothing and 0 where it does not fit
abbrev pub print : List ℕ → List ℕ → Print
print t old = cond (leb (length t) (length old)) (leaves (length t) (t ++ drop (length t) old)) (leaves 0 old)

-- the same of a call that answers no length where the text does not fit
pub record Attempt : Type 0 where
  pub count : Option ℕ
  pub buffer : List ℕ

abbrev pub tries : Option ℕ → List ℕ → Attempt
tries r b = record { count = r; buffer = b }

abbrev pub attempt : List ℕ → List ℕ → Attempt
attempt t old = cond (leb (length t) (length old)) (tries (Some (length t)) (t ++ drop (length t) old)) (tries None old)

-- a buffer with a text from a place on; the other bytes keep their contents
abbrev pub over : ℕ → List ℕ → List ℕ → List ℕ
over at t old = take at old ++ (t ++ drop (at + length t) old)

-- there is room from a place on
abbrev pub Room : ℕ → List ℕ → List ℕ → Type 0
Room at t old = at + length t ≤ length old

-- a text was written from a place on, and r is the place after it
pub record Put (at : ℕ) (t old new : List ℕ) (r : ℕ) : Type 0 where
  pub after : r ≡ at + length t
  pub bytes : new ≡ over at t old
