-- A head: its tests in turn, and its fields. Assumes nothing.
use Prim.Native.Nat.{ℕ, ◌≤◌, ◌<◌}
use mathlib.Core.Path.{◌≡◌, refl, sym, ap, ◌∙◌}
use mathlib.Core.Bool.{Bool, true, false}
use mathlib.Core.List.{List}
use native.Mathlib.Omega.{arith}
use lib.Dec.{leb}
use lib.ListN.{length, get_or, take, drop}
use lib.Seq.{drop-cons, drop-drop}
use borrow.Author.Tests.{le-leb, lt-leb}
use Rattle.std.specs.declared.option.Option.TheVariants.{None, Some}
use Rattle.std.specs.declared.result.Result.TheVariants.{Ok, Err}
use Rattle.tariff_file.specs.Layout.{number, field_value, values, Held}
use Rattle.tariff_file.specs.Reader.{stop, got, judged, one}
use Rattle.tariff_file.specs.File.{head_layout, task_of, lists_right, combiner_right, unless, asked_of, head_fault}
use Rattle.tariff_file.specs.declared.Refusal.{Refusal}
use Rattle.tariff_file.specs.declared.Refusal.TheVariants.{UnknownOperation, TooManyLists, NotTwoLists, UnknownCombiner}
use Rattle.tariff_file.specs.declared.Task.{Task}
use Rattle.file_records.specs.declared.rest.Rest.{Rest}
use Rattle.file_head.specs.Heads.{Judges, Headed}

-- the tests in turn, of a head whose operation does k
pub record Tests (o c n : ℕ) (k : Task) : Type 0 where
  pub over : 16 < n → Judges o c n (Err (TooManyLists 0))
  pub not_two : n ≤ 16 → lists_right k n ≡ false → Judges o c n (Err (NotTwoLists 0))
  pub unknown : n ≤ 16 → lists_right k n ≡ true → combiner_right k c ≡ false → Judges o c n (Err (UnknownCombiner 0))
  pub fine : n ≤ 16 → lists_right k n ≡ true → combiner_right k c ≡ true → Judges o c n (Ok k)

module _ (o c n : ℕ) where
  pub head_unnamed : None ≡ task_of o → Judges o c n (Err (UnknownOperation 0))
  head_unnamed e = (UnknownOperation, ap (λ t. asked_of t c n) (sym e), refl)

  module _ (k : Task) (e : Some k ≡ task_of o) where
    asked : (p q t : Bool) → leb n 16 ≡ p → lists_right k n ≡ q → combiner_right k c ≡ t → asked_of (task_of o) c n ≡ unless p TooManyLists (unless q NotTwoLists (unless t UnknownCombiner None))
    asked p q t f g h = ap (λ t. asked_of t c n) (sym e) ∙ (λ i. unless (f i) TooManyLists (unless (g i) NotTwoLists (unless (h i) UnknownCombiner None)))

    pub head_tests : Tests o c n k
    head_tests =
        record {
          over = λ h. (TooManyLists, asked false (lists_right k n) (combiner_right k c) (lt-leb n 16 h) refl refl, refl);
          not_two = λ few h. (NotTwoLists, asked true false (combiner_right k c) (le-leb n 16 few) h refl, refl);
          unknown = λ few two h. (UnknownCombiner, asked true true false (le-leb n 16 few) two h, refl);
          fine = λ few two h. (sym e, asked true true true (le-leb n 16 few) two h, few);
        }

-- the fields of a head that is there, with what is left behind it
module _ (s : List ℕ) (rest : Rest) (there : one head_layout head_fault 0 s ≡ (let v = values head_layout.fields (drop 2 s) in judged (head_fault v) 0 (got v rest.at rest.bytes.now))) (long : 6 ≤ length s) where
  byte : (at : ℕ) → at < length s → number (take 1 (drop at s)) ≡ get_or s at 0
  unfolding number
  byte at h = ap (λ (l : List ℕ). number (take 1 l)) (drop-cons s at 0 h) ∙ omega arith

  fields : values head_layout.fields (drop 2 s) ≡ (get_or s 2 0, (get_or s 3 0, (number (take 2 (drop 4 s)), tt)))
  unfolding values field_value
  fields =
      let a : drop 1 (drop 2 s) ≡ drop 3 s = drop-drop 1 2 s in
      let b : drop 1 (drop 1 (drop 2 s)) ≡ drop 4 s = ap (drop 1) a ∙ drop-drop 1 3 s in
      λ i. (byte 2 (omega arith) i, ((ap (λ l. number (take 1 l)) a ∙ byte 3 (omega arith)) i, (number (take 2 (b i)), tt)))

  module _ (n : ℕ) (count : n ≡ number (take 2 (drop 4 s))) where
    abbrev held : Held head_layout
    held = (get_or s 2 0, (get_or s 3 0, (n, tt)))

    head_is : one head_layout head_fault 0 s ≡ judged (asked_of (task_of (get_or s 2 0)) (get_or s 3 0) n) 0 (got held rest.at rest.bytes.now)
    head_is =
        let v : values head_layout.fields (drop 2 s) ≡ held = fields ∙ (λ i. (get_or s 2 0, (get_or s 3 0, (sym count i, tt)))) in
        there ∙ (λ i. judged (head_fault (v i)) 0 (got (v i) rest.at rest.bytes.now))

    pub head_refused : {x : Refusal} → Judges (get_or s 2 0) (get_or s 3 0) n (Err x) → one head_layout head_fault 0 s ≡ stop x
    head_refused {x} j = head_is ∙ ap (λ f. judged f 0 (got held rest.at rest.bytes.now)) j.1 ∙ ap stop (sym j.2)

    pub head_opens : {k : Task} → Judges (get_or s 2 0) (get_or s 3 0) n (Ok k) → Headed s (record { task = k; operation = get_or s 2 0; combiner = get_or s 3 0; lists = n }) rest
    head_opens {k} j = record { known = j.0; few = j.2; read = head_is ∙ ap (λ f. judged f 0 (got held rest.at rest.bytes.now)) j.1 }
