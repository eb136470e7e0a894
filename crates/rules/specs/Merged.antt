-- The output columns of many-way joins and selections: start, end and value. Assumes nothing.
use Rattle.std.specs.Prelude.{ℕ, List, [], ◌∷◌, ℤ, length}
use Rattle.rules.specs.Piece.{Range}
use Rattle.rules.specs.Lists.{Width, MutColumn, MutColumns}
use Rattle.rules.specs.Answer.{least, laid}

pub record Merged (P : Type 0) : Type 0 where
  pub start : List P
  pub end : List P
  pub value : List ℤ

-- the columns with some contents
abbrev pub columns : {P : Type 0} → List P → List P → List ℤ → Merged P
columns s e v = record { start = s; end = e; value = v }

-- the columns in a precondition, and in a promise before and after the call
abbrev pub output : {P : Type 0} → MutColumn P → MutColumn P → MutColumn ℤ → Merged P
output s e v = columns s.now e.now v.now

abbrev pub before : {P : Type 0} → MutColumns P → MutColumns P → MutColumns ℤ → Merged P
before s e v = output s.entry e.entry v.entry

abbrev pub after : {P : Type 0} → MutColumns P → MutColumns P → MutColumns ℤ → Merged P
after s e v = output s.exit e.exit v.exit

abbrev pub lengths : {P : Type 0} → Merged P → List ℕ
lengths c = length c.start ∷ length c.end ∷ length c.value ∷ []

abbrev pub room : {P : Type 0} → Merged P → ℕ
room c = least (lengths c)

-- the columns with pieces from place n on
abbrev pub lay : {P : Type 0} → Width P → ℕ → List Range → Merged P → Merged P
lay w n xs c =
    record {
      start = laid n (λ x. w.point x.start) xs c.start;
      end = laid n (λ x. w.point x.end) xs c.end;
      value = laid n (λ x. x.value) xs c.value;
    }
