-- A call that tries to print, by the number that it is told as: no length is 0. Assumes nothing.
use Prim.Native.Nat.{ℕ}
use mathlib.Core.Path.{◌≡◌, refl, ap, ◌∙◌}
use mathlib.Core.Bool.{Bool, true, false}
use mathlib.Core.List.{List, ◌++◌}
use lib.Dec.{leb}
use lib.ListN.{length, drop}
use Rattle.std.proofs.Common.{cond}
use Rattle.std.specs.Option.{unwrap_or}
use Rattle.std.specs.declared.option.Option.{Option}
use Rattle.std.specs.declared.option.Option.TheVariants.{None, Some}
use Rattle.answer_text.specs.Buffer.{Attempt, tries, attempt, leaves, print}

pub number_printed : (r : Option ℕ) (t new old : List ℕ) → tries r new ≡ attempt t old → leaves (unwrap_or r 0) new ≡ print t old
number_printed r t new old e = ap (λ (a : Attempt). leaves (unwrap_or a.count 0) a.buffer) e ∙ go (leb (length t) (length old))
  where
    go : (b : Bool) →
        let a = cond b (tries (Some (length t)) (t ++ drop (length t) old)) (tries None old) in
        leaves (unwrap_or a.count 0) a.buffer ≡ cond b (leaves (length t) (t ++ drop (length t) old)) (leaves 0 old)
    go true = refl
    go false = refl
