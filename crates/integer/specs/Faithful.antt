-- A width whose keys tell its points apart, so that a law over it holds of seats and instants alike. Assumes nothing.
use Rattle.std.specs.Prelude.{ℕ, ◌<◌, ◌≡◌}
use Rattle.rules.specs.Lists.{Width}

-- `Fits` says which values are points of the width
pub record Faithful {P : Type 0} (w : Width P) (Fits : P → Type 0) : Type 0 where
  pub key_point : (k : ℕ) → k < w.points → w.key (w.point k) ≡ k
  pub point_key : (a : P) → Fits a → w.point (w.key a) ≡ a
  pub below : (a : P) → Fits a → w.key a < w.points
