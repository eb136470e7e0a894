use Rattle.slots.specs.Slots.{slots_of}
use Rattle.combine.specs.Figures.{Summed}
use Rattle.combine.proofs.sum.Given as goal

abbrev pub invariant-loop-i : goal.invariant-loop-i
invariant-loop-i l = Summed l.i (slots_of l.current l.present) l.total
