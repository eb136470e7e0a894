-- The library's decimal is ours, of the numbers that it speaks of. Assumes nothing.
use Prim.Native.Nat.{ℕ, suc, ◌%◌, ◌+◌, ◌<◌, ◌^◌}
use mathlib.Core.Path.{◌≡◌, sym, ap, ◌∙◌}
use mathlib.Core.List.{List, [], ◌∷◌, ◌++◌}
use native.Mathlib.Omega.{arith}
use lib.IntN.{ℤ, pos, negsuc}
use lib.Signed.{mag}
use Rattle.std.specs.Fmt as std
use Rattle.std.proofs.lemmas.Fmt.{decimal_digit, decimal_step}
use Rattle.answer_text.specs.Numbers.{decimal, signed}
use Rattle.answer_text.proofs.Numbers.{decimal_ind, decimal_one, decimal_more}

pub decimal_same : (n : ℕ) → n < 2 ^ 64 → std.decimal n ≡ decimal n
decimal_same =
    decimal_ind (λ n. n < 2 ^ 64 → std.decimal n ≡ decimal n)
    (λ n h l. decimal_digit n h ∙ sym (decimal_one n h))
    (λ n h e l. decimal_step n h l ∙ ap (λ (d : List ℕ). d ++ ((48 + n % 10) ∷ [])) (e (omega arith)) ∙ sym (decimal_more n h))

pub signed_same : (z : ℤ) → mag z < 2 ^ 63 → std.signed_decimal z ≡ signed z
unfolding signed
signed_same (pos n) h = decimal_same n (omega arith)
signed_same (negsuc n) h = ap (λ (d : List ℕ). 45 ∷ d) (decimal_same (suc n) (omega arith))
