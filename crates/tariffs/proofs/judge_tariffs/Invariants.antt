-- `tariffs::judge_tariffs` meets its contract: what is found is what is still to be found, from each place on. Assumes nothing.
use mathlib.Core.Path.{◌≡◌}
use Rattle.std.specs.declared.option.Option.TheVariants.{None}
use Rattle.tariffs.proofs.Laws.{from}
use Rattle.tariffs.proofs.judge_tariffs.Given as goal

abbrev pub invariant-loop-i : goal.invariant-loop-i
invariant-loop-i g l = let after = from g.T.Ranged.range l.list in after None 0 ≡ after l.prior l.i
