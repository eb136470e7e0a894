-- What a C function says of an outcome: its code comes back, its number is written, and the columns are as it leaves them. Assumes nothing.
use Rattle.std.specs.Prelude.{ℕ, ◌≡◌}
use Rattle.rules.specs.Answer.{Outcome, code_of, number_of}

pub record Said {C : Type 0} (o : Outcome C) (r n : ℕ) (c : C) : Type 0 where
  pub code : r ≡ code_of o.answer
  pub number : n ≡ number_of o.answer
  pub columns : c ≡ o.columns
