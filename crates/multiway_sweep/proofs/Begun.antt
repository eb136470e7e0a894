-- Over lists that the form checker passes a sweep begins with all their events left. Assumes nothing.
use Prim.Native.Nat.{◌*◌, ◌≤◌}
use mathlib.Core.Path.{◌≡◌, sym, ap, ◌∙◌}
use lib.ListN.{length}
use native.Mathlib.Omega.{arith}
use Rattle.rules.specs.Lists.{Width, Lent, lists}
use Rattle.rules.specs.Refusals.{Formed}
use Rattle.rules.specs.declared.Kind.{Kind}
use Rattle.rules.proofs.Columns.{lists_size}
use Rattle.rules.proofs.Refusals.{lists_formed}
use Rattle.rules.proofs.Sweep.{events_length}
use Rattle.multiway_sweep.specs.Steps.{reads, Sweeping}
use Rattle.multiway_sweep.specs.Begins.{events_of, Begins}
use Rattle.multiway_sweep.specs.declared.Sweep.{Sweep}

module _ {P : Type 0} {w : Width P} {k : Kind} {l : Lent P} (f : Formed w k l) where
  -- n ranges give 2n events, so there are few
  pub events_count : length (events_of w l) ≡ 2 * length l.starts
  events_count = events_length (lists w l) ∙ ap (λ n. 2 * n) (lists_size w l ∙ f.agree.adds_up)

  pub events_few : length (events_of w l) ≤ 4096
  events_few = omega (arith, events_count, f.ranges_few)

  pub begun : {s : Sweep} → Begins w l.starts l.counts s → Sweeping w (reads l) s (events_of w l)
  begun b = b l.ends l.values (sym f.agree.values_long) (f.agree.ends_long ∙ sym f.agree.values_long) (lists_formed f)
