-- The outcome of an operation over zero lists that the form checker passed. Assumes nothing.
use Rattle.std.specs.Prelude.{[], length}
use Rattle.std.specs.declared.result.Result.TheVariants.{Ok}
use Rattle.rules.specs.Lists.{Width}
use Rattle.rules.specs.Answer.{Outcome, settle}
use Rattle.rules.specs.Merged.{Merged, room, lay}
use Rattle.many_way_rules.specs.Operations.{merged}
use Rattle.many_way_rules.specs.declared.Operation.{Operation}

abbrev pub of_none : {P : Type 0} → Width P → Operation → Merged P → Outcome (Merged P)
of_none w o c = let xs = merged o w.points [] in settle (Ok tt) (length xs) (room c) c (lay w 0 xs c)
