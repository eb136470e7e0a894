-- `form::judge_lists` meets its contract: what is found is what is still to be found, from each list on. Assumes nothing.
use Prim.Native.Nat.{◌+◌}
use mathlib.Core.Path.{◌≡◌}
use lib.ListN.{drop}
use Rattle.rules.specs.Lists.{keys, total}
use Rattle.form.specs.Shape.{Low}
use Rattle.form.proofs.Laws.{lists_from}
use Rattle.form.proofs.judge_lists.Given as goal

abbrev pub invariant-loop-count : goal.invariant-loop-count
invariant-loop-count g l =
    let w = g.P.Integer.width in
    let from_list = lists_from (keys w l.lent.starts.now) (keys w l.lent.ends.now) l.lent.counts.now in
    record {
      sum : l.from + total (drop l.count-index l.lent.counts.now) ≡ total l.lent.counts.now;
      same : from_list 0 0 ≡ from_list l.count-index l.from;
      low : Low w l.lent.ends.now 0 l.from;
    }
