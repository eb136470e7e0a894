-- Many-way joins and selections as point rules: which points an operation admits, and with which value. Assumes nothing.
use Rattle.std.specs.Prelude.{ℕ, cond, List, ℤ}
use Rattle.std.specs.declared.option.Option.{Option}
use Rattle.std.specs.declared.option.Option.TheVariants.{None}
use Rattle.rules.specs.Piece.{Range, present}
use Rattle.rules.specs.Same.{eq_ℤ}
use Rattle.rules.specs.Runs.{runs}
use Rattle.rules.specs.declared.Kind.{Kind}
use Rattle.rules.specs.declared.Kind.TheVariants.{Combining, Selection}
use Rattle.many_way_rules.specs.Combiners.{combine, known}
use Rattle.many_way_rules.specs.Selections.{admitted, picked}
use Rattle.many_way_rules.specs.declared.Admission.{Admission}
use Rattle.many_way_rules.specs.declared.Admission.TheVariants.{Every, Any, Odd}
use Rattle.many_way_rules.specs.declared.Pick.TheVariants.{Highest}
use Rattle.many_way_rules.specs.declared.Operation.{Operation}
use Rattle.many_way_rules.specs.declared.Operation.TheVariants.{Join, Select}

-- inner admits points in every list, full points in at least one
abbrev pub inner : ℕ → Operation
inner c = Join Every c

abbrev pub full : ℕ → Operation
full c = Join Any c

-- union admits points in at least one list, symmetric difference points in an odd number; the value is the highest-index list's
abbrev pub union : Operation
union = Select Highest Any

abbrev pub symmetric_difference : Operation
symmetric_difference = Select Highest Odd

abbrev pub kind_of : Operation → Kind
kind_of (Join a c) = Combining (known c)
kind_of (Select p a) = Selection

abbrev pub admission : Operation → Admission
admission (Join a c) = a
admission (Select p a) = a

abbrev pub value_of : Operation → List (Option ℤ) → Option ℤ
value_of (Join a c) os = combine c (present os)
value_of (Select p a) os = picked p os

abbrev pub rule_of : Operation → List (Option ℤ) → Option ℤ
rule_of o os = cond (admitted (admission o) os) (value_of o os) None

-- the pieces of a many-way join or selection over n points
unfoldable pub merged : Operation → ℕ → List (List Range) → List Range
unfolding runs
merged o n ls = runs eq_ℤ (rule_of o) n ls
