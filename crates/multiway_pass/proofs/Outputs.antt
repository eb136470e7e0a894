-- Columns that are lent on, and on. Assumes nothing.
use mathlib.Core.Path.{refl, ◌∙◌}
use Rattle.multiway_pass.specs.Outputs.{Same}
use Rattle.multiway_pass.specs.declared.Output.{Output}

pub same_first : {P : Type 0} {c : Output P} → Same c c
same_first = record { start = refl; end = refl; value = refl }

pub same_then : {P : Type 0} {c d e : Output P} → Same c d → Same d e → Same c e
same_then s t = record { start = t.start ∙ s.start; end = t.end ∙ s.end; value = t.value ∙ s.value }
