-- What a join says by the presence of its lists and its combiner's answer. Assumes nothing.
use Prim.Native.Nat.{ℕ, ◌≤◌, min}
use mathlib.Core.Path.{◌≡◌, sym, ◌∙◌}
use mathlib.Core.Bool.{Bool, true, false}
use Rattle.std.specs.declared.option.Option.{Option}
use Rattle.std.specs.declared.option.Option.TheVariants.{None}
use mathlib.Core.List.{List}
use native.Mathlib.Omega.{arith}
use lib.IntN.{ℤ}
use Rattle.many_way_rules.specs.Combiners.{combine}
use Rattle.many_way_rules.specs.Selections.{admitted}
use Rattle.many_way_rules.specs.Operations.{rule_of}
use Rattle.many_way_rules.specs.declared.Admission.{Admission}
use Rattle.many_way_rules.specs.declared.Operation.TheVariants.{Join}
use Rattle.many_way_rules.proofs.Selections.{by_number, admitted_number}
use Rattle.slots.specs.Slots.{Slots, active, values_of, Counted}
use Rattle.slots.proofs.Slots.{active_length}
use Rattle.multiway_pass.specs.Pieces.{Present}

-- an admission goes by how many lists are present
pub admits_number : (a : Admission) {lists n : ℕ} {os : List (Option ℤ)} → Present lists n os → by_number a lists n ≡ admitted a os
admits_number a {os = os} p = rw (p.count, ← p.long) (admitted_number a os)

-- the lists that the places hold
pub counted_present : {lists n : ℕ} {s : Slots} → Counted lists n s → Present lists n (active lists s)
counted_present {lists} {s = s} c = record { long = active_length lists s; count = c.count }

module _ (a : Admission) (combiner n : ℕ) (s : Slots) {t : Bool} (e : t ≡ admitted a (active n s)) where
  pub not_admitted : t ≡ false → None ≡ rule_of (Join a combiner) (active n s)
  not_admitted h = rw (sym e ∙ h)

  -- the combiner's answer
  pub admitted_with : t ≡ true → n ≤ 16 → {o : Option ℤ} → o ≡ combine combiner (values_of (min n 16) s) → o ≡ rule_of (Join a combiner) (active n s)
  admitted_with h few q = let m : min n 16 ≡ n = omega arith in rw (sym e ∙ h) (rw m at q)
