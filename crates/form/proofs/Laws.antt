-- The steps of the form checker: one range, a list's next range, the next list, and the refusals before them. Assumes nothing.
use Prim.Native.Nat.{ℕ, ◌+◌, ◌-◌, ◌≤◌, ◌<◌}
use mathlib.Core.Path.{◌≡◌, refl, sym, ap, ◌∙◌}
use mathlib.Core.Logic.{⊎_elim}
use mathlib.Core.Bool.{Bool, true, false, ◌&&◌, not}
use Rattle.std.specs.declared.option.Option.{Option}
use Rattle.std.specs.declared.option.Option.TheVariants.{None, Some}
use mathlib.Core.List.{List}
use native.Mathlib.Omega.{arith}
use lib.Dec.{ltb, eqb}
use lib.ListN.{length, get_or, drop, drop_of_length-le}
use Rattle.rules.specs.Lists.{Width, Lent, keys, ranges, cut, total, tracks}
use Rattle.rules.specs.Answer.{Judgement, refuse, or_else, judge_range, judge_list, judge_lists, judge, two_way}
use Rattle.std.specs.declared.result.Result.TheVariants.{Ok, Err}
use Rattle.rules.specs.declared.Refusal.{Refusal}
use Rattle.rules.specs.declared.Kind.{Kind}
use Rattle.rules.proofs.At.{le_or_lt}
use Rattle.rules.proofs.Faults.{tells_eq, tells_both}
use Rattle.rules.proofs.Refusals.{sound_agrees, sound_formed}
use Rattle.rules.proofs.Columns.{ranges_more, ranges_done, cut_more}
use Rattle.form.specs.Shape.{judge_shape, shape, Long, Low, Looked, Judged}

-- x is j, or else k where j finds nothing
module _ {x j : Judgement} (k : Judgement) (q : x ≡ or_else j k) where
  pub passes : {u : Unit {0}} → Ok u ≡ j → x ≡ k
  passes found = rw (q, ← found)

  pub stops : {r : Refusal} → Err r ≡ j → Err r ≡ x
  stops found = rw (q, ← found)

-- ranges whose starts and ends are s and e by place
module _ (s e : ℕ → ℕ) where
  -- the list at places from i up to but not stop, after a range that ends at o
  abbrev pub list_from : Option ℕ → ℕ → ℕ → Judgement
  list_from o i stop = judge_list o (ranges s e (λ k. k) i (stop - i))

  -- its next range, whose start and end are x and y
  pub list_next : (o : Option ℕ) (i stop : ℕ) → i < stop → {x y : ℕ} → x ≡ s i → y ≡ e i → list_from o i stop ≡ or_else (judge_range o (record { start = x; end = y; value = i })) (list_from (Some y) (i + 1) stop)
  list_next o i stop h p q = rw (ranges_more s e (λ k. k) i stop h, p, q)

  pub list_done : (o : Option ℕ) (i stop : ℕ) → stop ≤ i → Ok tt ≡ list_from o i stop
  list_done o i stop h = rw (ranges_done s e (λ k. k) i stop h)

  -- the lists from the one numbered k on, which lie end to end from place i on
  abbrev pub lists_from : List ℕ → ℕ → ℕ → Judgement
  lists_from ns k i = judge_lists (cut s e (λ j. j) i (drop k ns))

  -- the next list, which lies up to but not stop
  pub lists_next : (ns : List ℕ) (k i stop : ℕ) → k < length ns → stop ≡ i + get_or ns k 0 → lists_from ns k i ≡ or_else (list_from None i stop) (lists_from ns (k + 1) stop)
  lists_next ns k i stop h q = let z : stop - i ≡ get_or ns k 0 = omega arith in rw (cut_more s e (λ j. j) i k ns h, z, q)

  pub lists_done : (ns : List ℕ) (k i : ℕ) → length ns ≤ k → Ok tt ≡ lists_from ns k i
  lists_done ns k i h = rw (drop_of_length-le ns h)

unrefused : (t u w : Bool) (a b c : Refusal) (next : Judgement) → refuse t a (refuse u b (refuse (not w) c next)) ≡ Ok tt → w ≡ true
unrefused t u true a b c next h = refl
unrefused true u false a b c next h = cc
unrefused false true false a b c next h = cc
unrefused false false false a b c next h = cc

-- columns that are not refused reach up to the last range that is counted
pub shape_long : {P : Type 0} (k : Kind) (l : Lent P) {f : Judgement} → f ≡ shape k l → f ≡ Ok tt → Long l (total l.counts)
unfolding judge_shape
shape_long k l found h =
    let a = (tells_both (tells_both (tells_eq (length l.ends) (length l.starts)) (tells_eq (length l.values) (length l.starts))) (tells_eq (total l.counts) (length l.starts))).yes (unrefused (ltb 16 (length l.counts)) (two_way k && not (eqb (length l.counts) 2)) _ _ _ _ _ (sym found ∙ h)) in
    record { starts_long = omega arith; ends_long = omega arith; values_long = omega arith }

refuse_or : (t : Bool) (a : Refusal) (j k : Judgement) → refuse t a (or_else j k) ≡ or_else (refuse t a j) k
refuse_or true a j k = refl
refuse_or false a j k = refl

-- a judgement is that of the shape, or else that of the ranges
pub judge_parts : {P : Type 0} (w : Width P) (k : Kind) (l : Lent P) → judge w k l ≡ or_else (shape k l) (judge_lists (tracks w l))
unfolding judge judge_shape
judge_parts w k l = simp (← refuse_or)

module _ {P : Type 0} (w : Width P) (ends : List P) where
  -- one more end, and the ends of one more list
  pub low_more : {from i r : ℕ} → Low w ends from i → r ≡ keys w ends i → r < w.points → Low w ends from (i + 1)
  low_more {i = i} l is below k f h = ⊎_elim (λ e. let z : k ≡ i = omega arith in omega (arith, ap (keys w ends) z)) (λ e. l k f e) (le_or_lt i k)

  pub low_join : {from middle stop : ℕ} → Low w ends from middle → Low w ends middle stop → Low w ends from stop
  low_join {middle = middle} a b k f h = ⊎_elim (λ e. b k e h) (λ e. a k f e) (le_or_lt middle k)

-- a refusal says nothing of ends
pub looked_refused : {P : Type 0} (w : Width P) (l : Lent P) {from stop : ℕ} {j : Judgement} {r : Refusal} → Err r ≡ j → Looked w l from stop j (Err r)
looked_refused w l is = record { is = is; low = λ h. cc }

-- what is refused is judged so; what is sound passes, since the ends of all lists are all ends
module _ {P : Type 0} (w : Width P) (k : Kind) (l : Lent P) where
  pub judged_refused : {r : Refusal} → Err r ≡ judge w k l → Judged w k l (Err r)
  judged_refused is = record { is = is; passes = λ h. cc }

  pub judged : {j r : Judgement} → Looked w l 0 (total l.counts) j r → r ≡ judge w k l → Judged w k l r
  judged f e =
      record {
        is = e;
        passes = λ h. sound_formed w k l (λ i b. let a = sound_agrees w k l (sym e ∙ h) in f.low h i (omega arith) (omega (arith, a.ends_long, a.adds_up))) (sym e ∙ h);
      }
