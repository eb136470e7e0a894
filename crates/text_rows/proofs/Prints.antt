-- A whole text at the front of a buffer, or none of it; an answer is its header, then its rows. Assumes nothing.
use Prim.Native.Nat.{ℕ, zero, suc, ◌+◌, ◌≤◌, ◌<◌}
use mathlib.Core.Path.{◌≡◌, refl, sym, ap, ◌∙◌}
use mathlib.Core.List.{List, ◌∷◌, [], ◌++◌, map, map-append, append-nil}
use native.Mathlib.Nat.{zero-add}
use native.Mathlib.Omega.{arith}
use native.Mathlib.Numerals.{add-one}
use lib.IntN.{ℤ}
use lib.ListN.{length, length-append}
use borrow.Author.Tests.{le-leb, lt-leb}
use Rattle.std.specs.declared.option.Option.TheVariants.{None, Some}
use Rattle.rules.specs.Merged.{Merged}
use Rattle.rules.specs.Paired.{Paired}
use Rattle.answer_text.specs.Lines.{line, text}
use Rattle.answer_text.specs.Answers.{header, refusal, refusal_text, firsts, row, row_at, pair, pair_at, merged_text, paired_text}
use Rattle.answer_text.specs.Buffer.{Put, tries, attempt}
use Rattle.text_fields.specs.declared.Writer.{Writer}
use Rattle.text_fields.specs.Tables.{rows_text}
use Rattle.text_fields.specs.Writing.{Writes}

-- a text that does not fit, and one that is written, where the buffer ends as the writer left it
pub unfit : (t old : List ℕ) → length old < length t → tries None old ≡ attempt t old
unfit t old h = rw (lt-leb (length t) (length old) h)

pub whole : {w v : Writer} {new : List ℕ} (t old : List ℕ) → w.at ≡ 0 → w.out.now ≡ old → length t ≤ length old → Writes w t v → new ≡ v.out.now → tries (Some v.at) new ≡ attempt t old
whole {w} {v} {new} t old start before h p after =
    let p : Put 0 t old new v.at = rw (sym start, sym before, after) p.put in
    let e : v.at ≡ length t = omega (arith, p.after) in
    rw (le-leb (length t) (length old) h, e, p.bytes, zero-add)

length_firsts : {R : Type 0} (g : ℕ → R) (n : ℕ) → length (firsts g n) ≡ n
length_firsts g zero = refl
length_firsts g (suc n) = length-append (firsts g n) (g n ∷ []) ∙ ap (λ (k : ℕ). k + 1) (length_firsts g n) ∙ add-one n

map_firsts : {R S : Type 0} (f : R → S) (g : ℕ → R) (n : ℕ) → map f (firsts g n) ≡ firsts (λ i. f (g i)) n
map_firsts f g zero = refl
map_firsts {S = S} f g (suc n) = map-append f (firsts g n) (g n ∷ []) ∙ ap (λ (l : List S). l ++ (f (g n) ∷ [])) (map_firsts f g n)

answer_parts : {R : Type 0} (o c l : ℕ) (f : R → List (List ℕ)) (g : ℕ → R) (n : ℕ) →
    text (header o c l (length (firsts g n)) ∷ map f (firsts g n)) ≡ line (header o c l n) ++ rows_text (λ i. f (g i)) n
unfolding rows_text
answer_parts o c l f g n =
    ap (λ (k : ℕ). line (header o c l k) ++ text (map f (firsts g n))) (length_firsts g n)
    ∙ ap (λ (ls : List (List (List ℕ))). line (header o c l n) ++ text ls) (map_firsts f g n)

pub merged_parts : (o c l : ℕ) (m : Merged ℤ) (n : ℕ) → merged_text o c l m n ≡ line (header o c l n) ++ rows_text (λ i. row (row_at m i)) n
unfolding merged_text
merged_parts o c l m n = answer_parts o c l row (row_at m) n

pub paired_parts : (o c l : ℕ) (p : Paired ℤ) (n : ℕ) → paired_text o c l p n ≡ line (header o c l n) ++ rows_text (λ i. pair (pair_at p i)) n
unfolding paired_text
paired_parts o c l p n = answer_parts o c l pair (pair_at p) n

pub refusal_part : (c n : ℕ) → refusal_text c n ≡ line (refusal c n)
unfolding refusal_text
refusal_part c n = append-nil (line (refusal c n))
