-- A list judged range by range: what the ranges from a place on tell after the end before it. Assumes nothing.
use Prim.Native.Nat.{ℕ}
use mathlib.Core.Path.{◌≡◌, refl}
use Rattle.std.specs.declared.option.Option.{Option}
use Rattle.std.specs.declared.result.Result.TheVariants.{Ok, Err}
use mathlib.Core.List.{List}
use lib.ListN.{drop}
use Rattle.form.specs.declared.Range.{Range}
use Rattle.rules.specs.Answer.{Judgement, or_else, judge_list}
use Rattle.tariffs.specs.Placed.{placed}

pub or_sound : (j : Judgement) → or_else j (Ok tt) ≡ j
or_sound (Ok u) = refl
or_sound (Err r) = refl

module _ {T : Type 0} (range : T → Range) (xs : List T) where
  -- the ranges from place i on, after one that ends at o
  abbrev pub from : Option ℕ → ℕ → Judgement
  from o i = judge_list o (placed range i (drop i xs))
