-- A figure that adds something up over the lists present, as their number or the sum of their values. Assumes nothing.
use Rattle.std.specs.Prelude.{◌≡◌, List, [], ◌∷◌}
use Rattle.std.specs.declared.option.Option.{Option}
use Rattle.std.specs.declared.option.Option.TheVariants.{None, Some}

-- an addition whose terms may change places
pub record Additive {M : Type 0} (plus : M → M → M) : Type 0 where
  pub swap : (a b c : M) → plus a (plus b c) ≡ plus b (plus a c)

-- f of each value present, added to zero
abbrev pub tally : {A M : Type 0} → M → (M → M → M) → (A → M) → List (Option A) → M
tally zero plus f [] = zero
tally zero plus f (None ∷ os) = tally zero plus f os
tally zero plus f (Some v ∷ os) = plus (f v) (tally zero plus f os)
