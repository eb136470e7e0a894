-- What a pass concludes, by whether it wrote: its count is the answer, or there is no room for so many, or the next pass writes. Assumes nothing.
use Rattle.std.specs.Prelude.{ℕ, Bool, true, false, cond, ltb}
use Rattle.std.specs.declared.option.Option.{Option}
use Rattle.std.specs.declared.option.Option.TheVariants.{None, Some}
use Rattle.std.specs.declared.result.Result.TheVariants.{Ok, Err}
use Rattle.rules.specs.Answer.{Answer}
use Rattle.rules.specs.declared.Refusal.TheVariants.{NoRoom}

abbrev pub concluded : Bool → ℕ → ℕ → Option Answer
concluded true count room = Some (Ok count)
concluded false count room = cond (ltb room count) (Some (Err (NoRoom count))) None
