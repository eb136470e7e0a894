-- A sweep that is drained gives the events of its lists, all of them, in their order, whatever answers meet the contracts. Assumes nothing.
use mathlib.Core.Path.{◌≡◌, sym, ap, ◌∙◌}
use mathlib.Core.List.{List, ◌∷◌}
use lib.IntN.{ℤ}
use Rattle.std.specs.declared.option.Option.TheVariants.{None}
use Rattle.rules.specs.Lists.{Width, Lent}
use Rattle.rules.specs.Refusals.{Formed}
use Rattle.rules.specs.Sweep.{Event}
use Rattle.rules.specs.declared.Kind.{Kind}
use Rattle.multiway_sweep.specs.Steps.{Reading, reads, Sweeping, Holds}
use Rattle.multiway_sweep.specs.Begins.{events_of, Begins}
use Rattle.multiway_sweep.specs.Drained.{Drained, nothing, takes}
use Rattle.multiway_sweep.specs.declared.Sweep.{Sweep}
use Rattle.multiway_sweep.proofs.Begun.{begun}
use Rattle.multiway_sweep.proofs.Sorts.{on_step}

module _ {P : Type 0} (w : Width P) (c : Reading P) where
  -- what is drained is what is left
  pub drained : {s : Sweep} {es rest : List (Event ℤ)} → Drained w c s es → Sweeping w c s rest → es ≡ rest
  drained {rest = rest} (nothing r answers done) g =
      let h : Holds w c r.sweep None rest = rw done at (answers rest g).0.1 in
      sym h
  drained {s = s} {rest = rest} (takes r {e = e} answers took left) g =
      let a = answers rest g in
      on_step w c r.sweep (λ x. x ≡ e) r.taken a.0.1 took
      (λ x t q.
      rw (sym q) (ap (λ z. x ∷ z) (drained left t.2) ∙ sym t.1))

-- from `new` on
pub drains : {P : Type 0} {w : Width P} {k : Kind} {l : Lent P} {s : Sweep} {es : List (Event ℤ)} → Formed w k l → Begins w l.starts l.counts s → Drained w (reads l) s es → es ≡ events_of w l
drains {w = w} {l = l} f b d = drained w (reads l) d (begun f b)
