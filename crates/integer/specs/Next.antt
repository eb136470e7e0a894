-- What the point after another is, in any width. Assumes nothing.
use Rattle.std.specs.Prelude.{◌+◌, ◌≡◌}
use Rattle.std.specs.declared.option.Option.{Option}
use Rattle.std.specs.declared.option.Option.TheVariants.{None, Some}
use Rattle.rules.specs.Lists.{Width}

-- it has the next key, and there is none after the greatest point
abbrev pub next : {P : Type 0} → Width P → P → Option P → Type 0
next w a (Some b) = w.key b ≡ w.key a + 1
next w a None = w.key a + 1 ≡ w.points
