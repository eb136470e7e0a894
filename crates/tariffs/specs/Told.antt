-- What a C function says of a list that was judged: a code comes back, and a number is written. Assumes nothing.
use Rattle.std.specs.Prelude.{ℕ, ◌≡◌}
use Rattle.std.specs.declared.result.Result.TheVariants.{Ok, Err}
use Rattle.rules.specs.Answer.{Answer, Judgement, code_of, number_of}

-- a list without fault is done, and its number is 0
abbrev pub answer_of : Judgement → Answer
answer_of (Ok u) = Ok 0
answer_of (Err r) = Err r

pub record Told (j : Judgement) (r n : ℕ) : Type 0 where
  pub code : r ≡ code_of (answer_of j)
  pub number : n ≡ number_of (answer_of j)
