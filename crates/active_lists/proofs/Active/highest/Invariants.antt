use mathlib.Core.Path.{◌≡◌}
use Rattle.active_lists.specs.Kept.{on, seen, Keeps}
use Rattle.active_lists.proofs.Active.highest.Given as goal

abbrev pub invariant-loop-self : goal.invariant-loop-self
invariant-loop-self l = record { keeps : Keeps (record { heap = l.self-inside.heap; marks = l.self-inside.marks; len = l.self-inside.len; count = l.self-inside.count }); same : on l.self-inside.marks ≡ seen l.fn.self }

abbrev pub decreases-loop-self : goal.decreases-loop-self
decreases-loop-self l = l.self-inside.len
