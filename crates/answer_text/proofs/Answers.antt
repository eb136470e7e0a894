-- Equal texts are those of equal answers; an answer and the least number as examples. Assumes nothing.
use Prim.Native.Nat.{ℕ, suc}
use mathlib.Core.Path.{◌≡◌, refl, sym, ap, subst}
use mathlib.Core.Logic.{◌↔◌}
use Rattle.std.specs.declared.option.Option.{Option}
use Rattle.std.specs.declared.option.Option.TheVariants.{None, Some}
use mathlib.Core.List.{List, [], ◌∷◌, map, head-eq_of_cons-eq, tail-eq_of_cons-eq}
use native.Mathlib.Omega.{arith}
use lib.IntN.{ℤ, pos, negsuc}
use lib.ListN.{length}
use Rattle.answer_text.specs.Numbers.{places, decimal, signed}
use Rattle.answer_text.specs.Lines.{text}
use Rattle.answer_text.specs.Answers.{Row, Pair, Answer, merged, paired, refused, row, pair, side, header, refusal, lines, answer}
use Rattle.answer_text.proofs.Numbers.{Digits, decimal_digits, decimal_some, decimal_tells, signed_tells}
use Rattle.answer_text.proofs.Lines.{Dark, Line, Lines, text_tells, lines_of, map_tells, table_tells}

-- `join 5 1 2 3`, `1 4 100`, `5 5 120`, `6 9 20`
pub example :
    answer
    (merged 5 1 2
    (record { start = pos 1; end = pos 4; value = pos 100 } ∷ record { start = pos 5; end = pos 5; value = pos 120 } ∷ record { start = pos 6; end = pos 9; value = pos 20 } ∷ []))
    ≡ 106 ∷ 111 ∷ 105 ∷ 110 ∷ 32 ∷ 53 ∷ 32 ∷ 49 ∷ 32 ∷ 50 ∷ 32 ∷ 51 ∷ 10
    ∷ 49 ∷ 32 ∷ 52 ∷ 32 ∷ 49 ∷ 48 ∷ 48 ∷ 10
    ∷ 53 ∷ 32 ∷ 53 ∷ 32 ∷ 49 ∷ 50 ∷ 48 ∷ 10
    ∷ 54 ∷ 32 ∷ 57 ∷ 32 ∷ 50 ∷ 48 ∷ 10 ∷ []
unfolding places decimal signed
example = refl

-- the least i64
pub least : signed (negsuc 9223372036854775807) ≡ 45 ∷ 57 ∷ 50 ∷ 50 ∷ 51 ∷ 51 ∷ 55 ∷ 50 ∷ 48 ∷ 51 ∷ 54 ∷ 56 ∷ 53 ∷ 52 ∷ 55 ∷ 55 ∷ 53 ∷ 56 ∷ 48 ∷ 56 ∷ []
unfolding places decimal signed
least = refl

dark_digits : (d : List ℕ) → Digits d → Dark d
dark_digits [] h = tt
dark_digits (b ∷ d) h = (omega arith, dark_digits d h.2)

dark_decimal : (n : ℕ) → Dark (decimal n)
dark_decimal n = dark_digits (decimal n) (decimal_digits n)

dark_signed : (a : ℤ) → Dark (signed a)
unfolding signed
dark_signed (pos n) = dark_decimal n
dark_signed (negsuc n) = (omega arith, dark_decimal (suc n))

dark_side : (o : Option ℤ) → Dark (side o)
dark_side None = (omega arith, tt)
dark_side (Some v) = dark_signed v

-- no number is a bare `-`
bare : (a : ℤ) → signed a ≡ 45 ∷ [] → ⊥
unfolding signed
bare (pos n) e = omega (arith, (subst Digits e (decimal_digits n)).0)
bare (negsuc n) e = omega (arith, decimal_some (suc n), ap length (tail-eq_of_cons-eq e))

side_tells : (o p : Option ℤ) → side o ≡ side p → o ≡ p
side_tells None None e = refl
side_tells None (Some v) e = absurd (bare v (sym e))
side_tells (Some u) None e = absurd (bare u e)
side_tells (Some u) (Some v) e = ap Some (signed_tells u v e)

lined_row : (r : Row) → Line (row r)
lined_row r = (dark_signed r.start, (dark_signed r.end, dark_signed r.value))

lined_pair : (p : Pair) → Line (pair p)
lined_pair p = (dark_signed p.start, (dark_signed p.end, (dark_side p.left, dark_side p.right)))

lined_header : (o c l n : ℕ) → Line (header o c l n)
lined_header o c l n = ((omega arith, (omega arith, (omega arith, (omega arith, tt)))), (dark_decimal o, (dark_decimal c, (dark_decimal l, dark_decimal n))))

lined_refusal : (c n : ℕ) → Line (refusal c n)
lined_refusal c n = ((omega arith, (omega arith, (omega arith, (omega arith, (omega arith, (omega arith, (omega arith, tt))))))), (dark_decimal c, dark_decimal n))

row_tells : (r q : Row) → row r ≡ row q → r ≡ q
row_tells r q e =
    let s = signed_tells r.start q.start (cc) in
    let t = signed_tells r.end q.end (cc) in
    let u = signed_tells r.value q.value (cc) in
    λ i. record { start = s i; end = t i; value = u i }

pair_tells : (r q : Pair) → pair r ≡ pair q → r ≡ q
pair_tells r q e =
    let s = signed_tells r.start q.start (cc) in
    let t = signed_tells r.end q.end (cc) in
    let u = side_tells r.left q.left (cc) in
    let v = side_tells r.right q.right (cc) in
    λ i. record { start = s i; end = t i; left = u i; right = v i }

-- two texts of rows are equal exactly when the rows are
pub rows_tell : (rs qs : List Row) → (text (map row rs) ≡ text (map row qs)) ↔ (rs ≡ qs)
rows_tell rs qs = (table_tells row lined_row row_tells rs qs, ap (λ (l : List Row). text (map row l)))

pub pairs_tell : (rs qs : List Pair) → (text (map pair rs) ≡ text (map pair qs)) ↔ (rs ≡ qs)
pairs_tell rs qs = (table_tells pair lined_pair pair_tells rs qs, ap (λ (l : List Pair). text (map pair l)))

-- an answer's text tells its lines
lined : (a : Answer) → Lines (lines a)
lined (merged o c l rs) = (lined_header o c l (length rs), lines_of row lined_row row_tells rs)
lined (paired o c l ps) = (lined_header o c l (length ps), lines_of pair lined_pair pair_tells ps)
lined (refused c n) = (lined_refusal c n, tt)

answer_tells : (a b : Answer) → answer a ≡ answer b → lines a ≡ lines b
answer_tells a b e = text_tells (lines a) (lines b) (lined a) (lined b) e

-- and so, of one kind of operation, all that was answered; no refusal looks like an answer
pub merged_tells : (o c l p d m : ℕ) (rs qs : List Row) → answer (merged o c l rs) ≡ answer (merged p d m qs) → merged o c l rs ≡ merged p d m qs
merged_tells o c l p d m rs qs e =
    let h = answer_tells (merged o c l rs) (merged p d m qs) e in
    let x = decimal_tells o p (cc) in
    let y = decimal_tells c d (cc) in
    let z = decimal_tells l m (cc) in
    let w = map_tells row lined_row row_tells rs qs (cc) in
    λ i. merged (x i) (y i) (z i) (w i)

pub paired_tells : (o c l p d m : ℕ) (rs qs : List Pair) → answer (paired o c l rs) ≡ answer (paired p d m qs) → paired o c l rs ≡ paired p d m qs
paired_tells o c l p d m rs qs e =
    let h = answer_tells (paired o c l rs) (paired p d m qs) e in
    let x = decimal_tells o p (cc) in
    let y = decimal_tells c d (cc) in
    let z = decimal_tells l m (cc) in
    let w = map_tells pair lined_pair pair_tells rs qs (cc) in
    λ i. paired (x i) (y i) (z i) (w i)

pub refused_tells : (c n d m : ℕ) → answer (refused c n) ≡ answer (refused d m) → refused c n ≡ refused d m
refused_tells c n d m e =
    let h = answer_tells (refused c n) (refused d m) e in
    let x = decimal_tells c d (cc) in
    let y = decimal_tells n m (cc) in
    λ i. refused (x i) (y i)

pub merged_not_refused : (o c l d m : ℕ) (rs : List Row) → answer (merged o c l rs) ≡ answer (refused d m) → ⊥
merged_not_refused o c l d m rs e = omega (arith, head-eq_of_cons-eq e)

pub paired_not_refused : (o c l d m : ℕ) (rs : List Pair) → answer (paired o c l rs) ≡ answer (refused d m) → ⊥
paired_not_refused o c l d m rs e = omega (arith, head-eq_of_cons-eq e)
