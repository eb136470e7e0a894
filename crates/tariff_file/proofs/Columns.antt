-- Columns say as much as the lists that they lend, and an accepted file's columns are refused for nothing but 5 and 6. Assumes nothing.
use Prim.Native.Nat.{ℕ}
use mathlib.Core.Path.{◌≡◌, refl, sym, ap, ◌∙◌}
use mathlib.Core.Bool.{true, false, not, ◌&&◌}
use mathlib.Core.List.{List, [], ◌∷◌, map}
use native.Mathlib.Omega.{arith}
use lib.Dec.{eqb}
use lib.IntN.{ℤ}
use lib.ListN.{length, take, drop, length-map, length-append}
use lib.Seq.{take_at, drop_at}
use borrow.Author.Tests.{le-ltb, eq-eqb, eqb-true}
use Rattle.rules.specs.Lists.{Lent, instants, tracks, total}
use Rattle.rules.specs.Answer.{refuse, two_way, unknown_combiner, agree, judge, judge_lists}
use Rattle.rules.specs.declared.Kind.{Kind}
use Rattle.rules.specs.declared.Kind.TheVariants.{TwoWay, Combining, Selection}
use Rattle.many_way_rules.specs.Combiners.{known}
use Rattle.many_way_rules.specs.Sheet.{Tariff, flat, lend}
use Rattle.rules.specs.declared.Refusal.TheVariants.{TooManyLists, NotTwoLists, TooManyRanges, ColumnsDiffer, UnknownCombiner}
use Rattle.tariff_file.specs.File.{lists_right, combiner_right, Head, Sound}
use Rattle.tariff_file.specs.declared.Task.{Task}
use Rattle.tariff_file.specs.declared.Task.TheVariants.{Pair, Merge, Choose}

-- the lists back from their columns
abbrev zipped : List ℤ → List ℤ → List ℤ → Tariff ℤ
zipped [] es vs = []
zipped (s ∷ ss) [] vs = []
zipped (s ∷ ss) (e ∷ es) [] = []
zipped (s ∷ ss) (e ∷ es) (v ∷ vs) = record { start = s; end = e; value = v } ∷ zipped ss es vs

abbrev parted : List ℕ → Tariff ℤ → List (Tariff ℤ)
parted [] l = []
parted (n ∷ ns) l = take n l ∷ parted ns (drop n l)

abbrev pub lists_of : Lent ℤ → List (Tariff ℤ)
lists_of c = parted c.counts (zipped c.starts c.ends c.values)

zipped_back : (l : Tariff ℤ) → zipped (map (λ x. x.start) l) (map (λ x. x.end) l) (map (λ x. x.value) l) ≡ l
zipped_back [] = refl
zipped_back (x ∷ l) = ap (λ (m : Tariff ℤ). x ∷ m) (zipped_back l)

parted_back : (ls : List (Tariff ℤ)) → parted (map length ls) (flat ls) ≡ ls
parted_back [] = refl
parted_back (l ∷ ls) = λ i. take_at l (flat ls) (length l) refl i ∷ (ap (parted (map length ls)) (drop_at l (flat ls) (length l) refl) ∙ parted_back ls) i

pub lists_lent : (ls : List (Tariff ℤ)) → lists_of (lend ls) ≡ ls
lists_lent ls = ap (parted (map length ls)) (zipped_back (flat ls)) ∙ parted_back ls

pub total_flat : (ls : List (Tariff ℤ)) → total (map length ls) ≡ length (flat ls)
total_flat [] = refl
total_flat (l ∷ ls) = omega (arith, length-append l (flat ls), total_flat ls)

-- as the library tells operations apart
abbrev pub kind_of : Task → ℕ → Kind
kind_of (Pair p) c = TwoWay
kind_of (Merge a) c = Combining (known c)
kind_of (Choose p a) c = Selection

-- in a file 1, 2, 3, 4 and 7 are judged by the file's own rules
module _ (h : Head) (ls : List (Tariff ℤ)) (s : Sound h ls) where
  two_lists : (k : Task) (c : ℕ) → lists_right k (length ls) ≡ true → (two_way (kind_of k c) && not (eqb (length (map length ls)) 2)) ≡ false
  two_lists (Pair p) c e = ap not (eq-eqb (length (map length ls)) 2 (length-map ls length ∙ eqb-true (length ls) 2 e))
  two_lists (Merge a) c e = refl
  two_lists (Choose p a) c e = refl

  combined : (k : Task) (c : ℕ) → combiner_right k c ≡ true → unknown_combiner (kind_of k c) ≡ false
  combined (Pair p) c e = refl
  combined (Merge a) c e = ap not e
  combined (Choose p a) c e = refl

  pub file_judged : judge instants (kind_of s.task h.combiner) (lend ls) ≡ judge_lists (tracks instants (lend ls))
  unfolding judge
  file_judged =
      let c = lend ls in
      let f = flat ls in
      let n = length (map (λ x. x.start) f) in
      let a = length-map f (λ x. x.start) in
      let agreed : not (agree c) ≡ false =
      λ i. not (eq-eqb (length c.ends) n (length-map f (λ x. x.end) ∙ sym a) i && eq-eqb (length c.values) n (length-map f (λ x. x.value) ∙ sym a) i && eq-eqb (total c.counts) n (total_flat ls ∙ sym a) i) in
      let few = le-ltb 2048 n (omega (arith, s.few_ranges, total_flat ls, a)) in
      let short = le-ltb 16 (length (map length ls)) (omega (arith, s.few_lists, length-map ls length)) in
      λ i.
      refuse (short i) TooManyLists
      (refuse (two_lists s.task h.combiner s.right_lists i) NotTwoLists
      (refuse (agreed i) ColumnsDiffer
      (refuse (few i) TooManyRanges
      (refuse (combined s.task h.combiner s.right_combiner i) UnknownCombiner
      (judge_lists (tracks instants c))))))
