-- What the promise of a step rules out while events are left: that nothing is taken, another event than the next, and a sweep left as it was. Assumes nothing.
use Prim.Native.Nat.{ℕ}
use mathlib.Core.Path.{◌≡◌, sym}
use mathlib.Core.List.{List, [], ◌∷◌}
use native.Mathlib.Omega.{arith}
use lib.IntN.{ℤ}
use Rattle.rules.specs.Lists.{Width}
use Rattle.std.specs.declared.option.Option.{Option}
use Rattle.std.specs.declared.option.Option.TheVariants.{None}
use Rattle.rules.specs.Sweep as rules
use Rattle.multiway_sweep.specs.Steps.{Reading, On, Sweeping}
use Rattle.multiway_sweep.specs.declared.Event.{Event}
use Rattle.multiway_sweep.specs.declared.Sweep.{Sweep}
use Rattle.multiway_sweep.proofs.Sorts.{on_step}
use Rattle.sweep_step.specs.Lent.{Moves}

module _ {P : Type 0} (w : Width P) (c : Reading P) (s : Sweep) where
  -- the sweep has these events left
  abbrev pub Left : List (rules.Event ℤ) → Type 0
  Left rest = Sweeping w c s rest

  pub nothing_taken : (x : Sweep) {rest : List (rules.Event ℤ)} → Left rest → Moves w c s None x → rest ≡ []
  nothing_taken x {rest} g m = (m rest g).0.1

  pub next_taken : (t : Option Event) (x : Sweep) {d e : rules.Event ℤ} {rest : List (rules.Event ℤ)} → Left (d ∷ rest) → Moves w c s t x → On (λ y. y ≡ e) ⊥ t → e ≡ d
  next_taken t x {d} {e} {rest} g m took = on_step w c x (λ y. y ≡ e) t (m (d ∷ rest) g).0.1 took (λ y h q. let z = h.1 in cc)

  -- an event is taken, and the sweep is left as it was
  pub left_as_it_was : (t : Option Event) → On (λ y. Unit {0}) ⊥ t → (rest : List (rules.Event ℤ)) → Left rest → Moves w c s t s → ⊥
  left_as_it_was t took [] g m = on_step w c s (λ y. Unit {0}) t (m [] g).0.1 took (λ y h q. let z = h.1 in let n : ◌≡◌ {A = ℕ} 0 1 = cc in omega arith)
  left_as_it_was t took (d ∷ rest) g m =
      let a = m (d ∷ rest) g in
      on_step w c s (λ y. Unit {0}) t a.0.1 took
      (λ y h q.
      let same : h.0 ≡ rest = let z = h.1 in cc in
      let more : Left rest = rw (sym same) h.2 in
      left_as_it_was t took rest more m)
