-- A many-way join or selection as a whole outcome: from what is lent and the columns before, to the answer and the columns after. Assumes nothing.
use Rattle.std.specs.Prelude.{length}
use Rattle.rules.specs.Lists.{Width, Lent, lists}
use Rattle.rules.specs.Answer.{Outcome, judge, settle}
use Rattle.rules.specs.Merged.{Merged, room, lay}
use Rattle.many_way_rules.specs.Operations.{kind_of, merged}
use Rattle.many_way_rules.specs.declared.Operation.{Operation}

unfoldable pub merging : {P : Type 0} → Width P → Operation → Lent P → Merged P → Outcome (Merged P)
unfolding judge merged
merging w o l c =
    let xs = merged o w.points (lists w l) in
    settle (judge w (kind_of o) l) (length xs) (room c) c (lay w 0 xs c)
