use denote.Param.{number}
use Rattle.slots.specs.Slots.{slots_of}
use Rattle.combine.specs.contracts.utmost.{LEAST-type}
use Rattle.combine.proofs.Weights.{Best}
use Rattle.combine.proofs.utmost.Given as goal

abbrev pub invariant-loop-i : goal.invariant-loop-i
invariant-loop-i g l = Best (LEAST-type (number g.row.LEAST)) l.best l.i (slots_of l.current l.present)
