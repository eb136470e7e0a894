-- `row` meets its contract: a side that is there has its value. Assumes nothing.
use mathlib.Core.Path.{◌≡◌, refl}
use mathlib.Core.Bool.{Bool, true, false}
use lib.IntN.{ℤ}
use borrow.Author.Rules.{rules}
use Rattle.std.specs.Bool.{then_some}
use Rattle.answer_text.specs.Answers.{present}
use Rattle.text_pairs.proofs.PairsTable4.row.Goals as goal

value_there : (b : Bool) (v : ℤ) → then_some b v ≡ present b v
value_there true v = refl
value_there false v = refl

pub returns : goal.returns
returns c = rw (c.side.ensures, c.side-2.ensures, c.then_some.ensures, c.then_some-2.ensures, value_there, value_there) (search rules)
