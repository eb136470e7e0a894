use mathlib.Core.Bool.{false}
use lib.ListN.{get_or}
use Rattle.active_lists.specs.Active.{Stands}
use Rattle.active_lists.specs.Kept.{seen}
use Rattle.active_lists_test.proofs.play.Given as goal

abbrev pub invariant-loop-i : goal.invariant-loop-i
invariant-loop-i g l = Stands (seen l.active) (λ j. get_or l.on j false)
