-- The output columns of two-way operations: start, end, the value of each side and which sides are present. Assumes nothing.
use Rattle.std.specs.Prelude.{ℕ, List, [], ◌∷◌, ℤ, length}
use Rattle.rules.specs.Piece.{Piece}
use Rattle.rules.specs.Lists.{Width, MutColumn, MutColumns}
use Rattle.rules.specs.Answer.{least, laid}
use Rattle.rules.specs.TwoWay.{Match, side_value, presence}

pub record Paired (P : Type 0) : Type 0 where
  pub start : List P
  pub end : List P
  pub left : List ℤ
  pub right : List ℤ
  pub presence : List ℕ

-- the columns with some contents
abbrev pub columns : {P : Type 0} → List P → List P → List ℤ → List ℤ → List ℕ → Paired P
columns s e l r p = record { start = s; end = e; left = l; right = r; presence = p }

-- the columns in a precondition, and in a promise before and after the call
abbrev pub output : {P : Type 0} → MutColumn P → MutColumn P → MutColumn ℤ → MutColumn ℤ → MutColumn ℕ → Paired P
output s e l r p = columns s.now e.now l.now r.now p.now

abbrev pub before : {P : Type 0} → MutColumns P → MutColumns P → MutColumns ℤ → MutColumns ℤ → MutColumns ℕ → Paired P
before s e l r p = output s.entry e.entry l.entry r.entry p.entry

abbrev pub after : {P : Type 0} → MutColumns P → MutColumns P → MutColumns ℤ → MutColumns ℤ → MutColumns ℕ → Paired P
after s e l r p = output s.exit e.exit l.exit r.exit p.exit

abbrev pub lengths : {P : Type 0} → Paired P → List ℕ
lengths c = length c.start ∷ length c.end ∷ length c.left ∷ length c.right ∷ length c.presence ∷ []

abbrev pub room : {P : Type 0} → Paired P → ℕ
room c = least (lengths c)

-- the columns with pieces from place n on, whose sides have the values v by their places
abbrev pub lay : {P : Type 0} → Width P → (ℕ → ℤ) → ℕ → List (Piece Match) → Paired P → Paired P
lay w v n xs c =
    record {
      start = laid n (λ x. w.point x.start) xs c.start;
      end = laid n (λ x. w.point x.end) xs c.end;
      left = laid n (λ x. side_value v x.value.0) xs c.left;
      right = laid n (λ x. side_value v x.value.1) xs c.right;
      presence = laid n (λ x. presence x.value) xs c.presence;
    }
