-- `form::judge_list` meets its contract: what is found is what is still to be found, from each place on. Assumes nothing.
use mathlib.Core.Path.{◌≡◌}
use Rattle.std.specs.declared.option.Option.TheVariants.{None}
use Rattle.rules.specs.Lists.{keys}
use Rattle.form.specs.Shape.{Low}
use Rattle.form.proofs.Laws.{list_from}
use Rattle.form.proofs.judge_list.Given as goal

abbrev pub invariant-loop-i : goal.invariant-loop-i
invariant-loop-i g l =
    let w = g.P.Integer.width in
    let from_place = list_from (keys w l.lent.starts.now) (keys w l.lent.ends.now) in
    record { same : from_place None l.from l.stop ≡ from_place l.prior l.i l.stop; low : Low w l.lent.ends.now l.from l.i }
