-- The output columns of the event listing: kind, point, list and value. Assumes nothing.
use Rattle.std.specs.Prelude.{ℕ, List, [], ◌∷◌, ℤ, pos, length}
use Rattle.rules.specs.Lists.{Width, MutColumn, MutColumns}
use Rattle.rules.specs.Answer.{least, laid}
use Rattle.rules.specs.Sweep.{Event, starts, ends, point, kind, list}

pub record Listed (P : Type 0) : Type 0 where
  pub kind : List ℕ
  pub point : List P
  pub list : List ℕ
  pub value : List ℤ

-- the columns in a precondition, and in a promise before and after the call
abbrev pub output : {P : Type 0} → MutColumn ℕ → MutColumn P → MutColumn ℕ → MutColumn ℤ → Listed P
output k p l v = record { kind = k.now; point = p.now; list = l.now; value = v.now }

abbrev pub before : {P : Type 0} → MutColumns ℕ → MutColumns P → MutColumns ℕ → MutColumns ℤ → Listed P
before k p l v = output k.entry p.entry l.entry v.entry

abbrev pub after : {P : Type 0} → MutColumns ℕ → MutColumns P → MutColumns ℕ → MutColumns ℤ → Listed P
after k p l v = output k.exit p.exit l.exit v.exit

abbrev pub lengths : {P : Type 0} → Listed P → List ℕ
lengths c = length c.kind ∷ length c.point ∷ length c.list ∷ length c.value ∷ []

abbrev pub room : {P : Type 0} → Listed P → ℕ
room c = least (lengths c)

-- 0 for an end
abbrev pub event_value : Event ℤ → ℤ
event_value (starts p i v) = v
event_value (ends p i) = pos 0

-- the columns with events from place n on
abbrev pub lay : {P : Type 0} → Width P → ℕ → List (Event ℤ) → Listed P → Listed P
lay w n es c =
    record {
      kind = laid n kind es c.kind;
      point = laid n (λ e. w.point (point e)) es c.point;
      list = laid n list es c.list;
      value = laid n event_value es c.value;
    }
