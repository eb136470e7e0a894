-- Many-way joins and selections as calls: each answer exactly when the table says so for an operation of its kind, and what each place of each column holds afterwards. Assumes nothing.
use Prim.Native.Nat.{ℕ}
use mathlib.Core.List.{[], ◌∷◌}
use lib.ListN.{length}
use Rattle.rules.specs.Lists.{Width, Lent, lists}
use Rattle.rules.specs.Merged.{Merged}
use Rattle.rules.specs.declared.Kind.{Kind}
use Rattle.rules.specs.declared.Kind.TheVariants.{Combining, Selection}
use Rattle.rules.proofs.Operations.{Settled, MergedRow, MergedLater, merged_settled}
use Rattle.many_way_rules.specs.Combiners.{known}
use Rattle.many_way_rules.specs.Operations.{merged}
use Rattle.many_way_rules.specs.Outcomes.{merging}
use Rattle.many_way_rules.specs.declared.Admission.{Admission}
use Rattle.many_way_rules.specs.declared.Pick.{Pick}
use Rattle.many_way_rules.specs.declared.Operation.{Operation}
use Rattle.many_way_rules.specs.declared.Operation.TheVariants.{Join, Select}

module _ {P : Type 0} (w : Width P) (l : Lent P) (c : Merged P) where
  -- what an operation leaves, being of kind k
  abbrev pub Leaves : Kind → Operation → Type 0
  Leaves k o = Settled w k l (merged o w.points (lists w l)) (length c.start ∷ length c.end ∷ length c.value ∷ []) (MergedRow w) MergedLater c (merging w o l c)

  -- code 7 can be due for a join, where its combiner is not known; for a selection neither it nor code 2
  pub join_settled : (a : Admission) (combiner : ℕ) → Leaves (Combining (known combiner)) (Join a combiner)
  unfolding merging
  join_settled a combiner = merged_settled w l (Combining (known combiner)) (merged (Join a combiner) w.points (lists w l)) c

  pub selection_settled : (p : Pick) (a : Admission) → Leaves Selection (Select p a)
  unfolding merging
  selection_settled p a = merged_settled w l Selection (merged (Select p a) w.points (lists w l)) c
