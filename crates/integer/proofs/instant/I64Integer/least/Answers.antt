-- `least` of instants meets its contract. Assumes nothing.
use mathlib.Core.Path.{refl}
use Rattle.rules.specs.Lists.{key64}
use Rattle.integer.proofs.instant.I64Integer.least.Goals as goal

pub returns : goal.returns
unfolding key64
returns c = refl
