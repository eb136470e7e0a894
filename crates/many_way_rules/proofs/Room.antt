-- Room: n ranges give at most 2n - 1 pieces, and zero lists what the rule says of the whole line. Assumes nothing.
use Prim.Native.Nat.{ℕ, ◌*◌, ◌-◌, ◌≤◌, ◌<◌}
use mathlib.Core.Path.{◌≡◌, refl}
use mathlib.Core.Bool.{false}
use Rattle.std.specs.declared.option.Option.TheVariants.{None}
use mathlib.Core.List.{List, [], ◌∷◌}
use native.Mathlib.Omega.{arith}
use lib.ListN.{length}
use borrow.Author.Tests.{lt-ltb}
use Rattle.rules.specs.Piece.{Range, AllWellFormed}
use Rattle.rules.specs.Same.{eq_ℤ}
use Rattle.rules.specs.Runs.{extend, line, pieces, runs}
use Rattle.rules.specs.Proving.Below.{nones, size}
use Rattle.rules.proofs.Room.{runs_count, runs_room}
use Rattle.rules.proofs.Same.{decides_ℤ}
use Rattle.many_way_rules.specs.Selections.{admitted}
use Rattle.many_way_rules.specs.Operations.{admission, rule_of, merged}
use Rattle.many_way_rules.specs.declared.Admission.{Admission}
use Rattle.many_way_rules.specs.declared.Admission.TheVariants.{Every, Any, Odd}
use Rattle.many_way_rules.specs.declared.Operation.{Operation}

-- no admission over lists takes a point that none has
nothing_admitted : (a : Admission) (l : List Range) (ls : List (List Range)) → admitted a (nones (l ∷ ls)) ≡ false
nothing_admitted Every l ls = refl
nothing_admitted Any l [] = refl
nothing_admitted Any l (k ∷ ls) = nothing_admitted Any k ls
nothing_admitted Odd l [] = refl
nothing_admitted Odd l (k ∷ ls) = nothing_admitted Odd k ls

pub rule_nones : (o : Operation) (l : List Range) (ls : List (List Range)) → rule_of o (nones (l ∷ ls)) ≡ None
rule_nones o l ls = rw (nothing_admitted (admission o) l ls)

pub merged_room : (o : Operation) (n : ℕ) (ls : List (List Range)) → AllWellFormed n ls → 1 ≤ size ls → length (merged o n ls) ≤ 2 * size ls - 1
unfolding merged
merged_room o n [] wf h = absurd (omega arith)
merged_room o n (l ∷ ls) wf h = runs_room eq_ℤ (rule_of o) n (l ∷ ls) decides_ℤ wf (rule_nones o l ls)

-- 4,095 is always enough
pub merged_enough : (o : Operation) (n : ℕ) (ls : List (List Range)) → AllWellFormed n ls → size ls ≤ 2048 → length (merged o n ls) ≤ 4095
unfolding merged
merged_enough o n [] wf h = omega (arith, runs_count eq_ℤ (rule_of o) n [])
merged_enough o n (l ∷ ls) wf h = omega (arith, runs_room eq_ℤ (rule_of o) n (l ∷ ls) decides_ℤ wf (rule_nones o l ls))

-- over zero lists, what the rule says of no lists is said of the whole line
pub merged_of_none : (o : Operation) (n : ℕ) → 0 < n → merged o n [] ≡ extend eq_ℤ (rule_of o []) 0 n []
unfolding merged runs pieces line
merged_of_none o n h = rw (lt-ltb 0 n h)
