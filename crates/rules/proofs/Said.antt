-- From what an operation leaves to what its C function says, and back. Assumes nothing.
use Prim.Native.Nat.{ℕ}
use mathlib.Core.Path.{◌≡◌, refl, sym, ◌∙◌, ap}
use mathlib.Core.List.{[], ◌∷◌}
use lib.ListN.{get_or}
use Rattle.std.specs.declared.result.Result.TheVariants.{Ok, Err}
use Rattle.rules.specs.Answer.{Answer, Outcome, leaves, code_of, number_of}
use Rattle.rules.specs.declared.Refusal.TheVariants.{TooManyLists, NotTwoLists, TooManyRanges, ColumnsDiffer, Backward, Overlap, UnknownCombiner, NoRoom}
use Rattle.rules.specs.Said.{Said}

pub said : {C : Type 0} {o : Outcome C} {a : Answer} {c : C} {code number : ℕ} → ◌≡◌ {A = Outcome C} (record { answer = a; columns = c }) o → code ≡ code_of a → number ≡ number_of a → Said o code number c
said e p q = record { code = p ∙ ap (λ o. code_of o.answer) e; number = q ∙ ap (λ o. number_of o.answer) e; columns = ap (λ o. o.columns) e }

-- the answer that a code and a number tell
abbrev pub answer_of : ℕ → ℕ → Answer
answer_of code number = get_or (Ok number ∷ Err TooManyLists ∷ Err NotTwoLists ∷ Err TooManyRanges ∷ Err ColumnsDiffer ∷ Err (Backward number) ∷ Err (Overlap number) ∷ Err UnknownCombiner ∷ []) code (Err (NoRoom number))

pub answer_told : (a : Answer) → answer_of (code_of a) (number_of a) ≡ a
answer_told (Ok n) = refl
answer_told (Err TooManyLists) = refl
answer_told (Err NotTwoLists) = refl
answer_told (Err TooManyRanges) = refl
answer_told (Err ColumnsDiffer) = refl
answer_told (Err (Backward i)) = refl
answer_told (Err (Overlap i)) = refl
answer_told (Err UnknownCombiner) = refl
answer_told (Err (NoRoom n)) = refl

-- what is said is the whole outcome
pub said_tells : {C : Type 0} {o : Outcome C} {code number : ℕ} {c : C} → Said o code number c → leaves (answer_of code number) c ≡ o
said_tells {o} s = rw (s.code, s.number, s.columns, answer_told o.answer)

-- two answers that say one outcome are equal
pub said_only : {C : Type 0} {o : Outcome C} {code code' number number' : ℕ} {c c' : C} → Said o code number c → Said o code' number' c' → (code ≡ code') × (number ≡ number') × (c ≡ c')
said_only s t = (s.code ∙ sym t.code, s.number ∙ sym t.number, s.columns ∙ sym t.columns)
