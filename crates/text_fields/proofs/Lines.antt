-- The fields of a line, one by one, and lines one by one. Assumes nothing.
use Prim.Native.Nat.{ℕ, ◌+◌, ◌<◌, max}
use mathlib.Core.Path.{◌≡◌, refl, sym, ap, ◌∙◌}
use mathlib.Core.List.{List, [], ◌∷◌, ◌++◌, map, append_assoc, append-nil}
use native.Mathlib.Omega.{arith}
use native.Mathlib.Numerals.{add-one}
use lib.ListN.{length, take, get_or, length-append}
use Rattle.std.specs.List.{flat_map}
use Rattle.std.proofs.lemmas.Grind.{flat_map-append}
use Rattle.std.proofs.lemmas.List.{take_more}
use Rattle.std.proofs.lemmas.List.Folds.{flat_map-map}
use Rattle.answer_text.specs.Lines.{parted, line, text}
use Rattle.answer_text.specs.Answers.{firsts}
use Rattle.text_fields.specs.declared.Field.{Field}
use Rattle.text_fields.specs.declared.Field.TheVariants.{Join}
use Rattle.text_fields.specs.Fields.{spelled, spelled_line}
use Rattle.text_fields.specs.Tables.{rows_text}

-- what the first of some fields make, and one more
pub one_more : (f : Field → List ℕ) (fs : List Field) (i : ℕ) → i < length fs → flat_map f (take (i + 1) fs) ≡ flat_map f (take i fs) ++ f (get_or fs i Join)
one_more f fs i h =
    ap (flat_map f) (take_more fs i Join h)
    ∙ flat_map-append f (take i fs) (get_or fs i Join ∷ [])
    ∙ ap (λ (t : List ℕ). flat_map f (take i fs) ++ t) (append-nil (f (get_or fs i Join)))

-- the fields of a line: the first, and each other after a space
pub parted_fields : (f : List ℕ) (fs : List (List ℕ)) → parted (f ∷ fs) ≡ f ++ flat_map (λ g. 32 ∷ g) fs
parted_fields f [] = sym (append-nil f)
parted_fields f (g ∷ fs) = ap (λ (t : List ℕ). f ++ (32 ∷ t)) (parted_fields g fs)

-- the same of fields as they are spelled
abbrev pub after_space : Field → List ℕ
after_space f = 32 ∷ spelled f

pub first_and_others : (f : Field) (fs : List Field) → parted (map spelled (f ∷ fs)) ≡ spelled f ++ flat_map after_space fs
first_and_others f fs = parted_fields (spelled f) (map spelled fs) ∙ ap (λ (t : List ℕ). spelled f ++ t) (flat_map-map (λ g. 32 ∷ g) spelled fs)

-- how long a line is: its fields, and a byte after each; an empty one has a byte too
others_long : (fs : List Field) → length (flat_map after_space fs) ≡ length (flat_map spelled fs) + length fs
others_long [] = refl
others_long (f ∷ fs) = omega (arith, length-append (after_space f) (flat_map after_space fs), length-append (spelled f) (flat_map spelled fs), others_long fs)

pub line_long : (fs : List Field) → length (spelled_line fs) ≡ length (flat_map spelled fs) + max (length fs) 1
line_long [] = refl
line_long (f ∷ fs) =
    omega (
      arith,
      ap (λ (t : List ℕ). length (t ++ (10 ∷ []))) (first_and_others f fs),
      length-append (spelled f ++ flat_map after_space fs) (10 ∷ []),
      length-append (spelled f) (flat_map after_space fs),
      length-append (spelled f) (flat_map spelled fs),
      others_long fs,
    )

-- the lines of the first rows, and one more
text_append : (ls ms : List (List (List ℕ))) → text (ls ++ ms) ≡ text ls ++ text ms
text_append [] ms = refl
text_append (l ∷ ls) ms = ap (λ (t : List ℕ). line l ++ t) (text_append ls ms) ∙ sym (append_assoc (line l) (text ls) (text ms))

module _ (fields : ℕ → List (List ℕ)) where
  pub no_rows : rows_text fields 0 ≡ []
  unfolding rows_text
  no_rows = refl

  pub row_more : (i : ℕ) → rows_text fields (i + 1) ≡ rows_text fields i ++ line (fields i)
  unfolding rows_text
  row_more i =
      ap (λ (k : ℕ). text (firsts fields k)) (add-one i)
      ∙ text_append (firsts fields i) (fields i ∷ [])
      ∙ ap (λ (t : List ℕ). text (firsts fields i) ++ t) (append-nil (line (fields i)))
