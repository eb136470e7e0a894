-- Where the stretch after an event starts. Assumes nothing.
use Prim.Native.Nat.{ℕ, ◌+◌, ◌<◌}
use mathlib.Core.Path.{◌≡◌, refl, sym}
use mathlib.Core.Logic.{◌⊎◌, inl, inr}
use mathlib.Core.Bool.{Bool, true, false, cond, ◌&&◌, true≢false}
use Rattle.std.specs.declared.option.Option.{Option}
use Rattle.std.specs.declared.option.Option.TheVariants.{None, Some}
use native.Mathlib.Omega.{arith}
use lib.Dec.{ltb}
use borrow.Author.Tests.{ltb-true, ltb-false}
use Rattle.multiway_sweep.specs.Front.{edge}
use Rattle.multiway_sweep.specs.Steps.{event_of}
use Rattle.multiway_sweep.specs.declared.Event.{Event}
use Rattle.multiway_sweep.specs.declared.Event.TheVariants.{Start, End}
use Rattle.select_pass.specs.Stretches.{starts_after}

-- the next stretch starts at the first point that the event bears on, unless no list is active then or that is past the greatest
abbrev pub Bears : Event → ℕ → ℕ → Option ℕ → Type 0
Bears e n greatest (Some s) = s ≡ edge (event_of e)
Bears e n greatest None = (n ≡ 0) ⊎ (greatest < edge (event_of e))

pub bears : (e : Event) (n greatest : ℕ) {r : Option ℕ} → r ≡ starts_after e n greatest → Bears e n greatest r
bears e n greatest q = rw q (go e)
  where
    ended : (at list : ℕ) (b t : Bool) → ltb 0 n ≡ b → ltb at greatest ≡ t → Bears (End at list) n greatest (cond (b && t) (Some (at + 1)) None)
    ended at list true true p q = refl
    ended at list true false p q = inr (omega (arith, ltb-false at greatest q))
    ended at list false t p q = inl (omega (arith, ltb-false 0 n p))

    go : (e : Event) → Bears e n greatest (starts_after e n greatest)
    go (Start y list v) = omega arith
    go (End at list) = ended at list (ltb 0 n) (ltb at greatest) refl refl

-- where the next stretch starts past an end, that is not the greatest point
pub not_greatest : (n greatest at : ℕ) → (ltb 0 n && ltb at greatest) ≡ true → at < greatest
not_greatest n greatest at = go (ltb 0 n)
  where
    go : (b : Bool) → (b && ltb at greatest) ≡ true → at < greatest
    go true q = ltb-true at greatest q
    go false q = absurd (true≢false (sym q))
