-- A list of structs is judged as it is in columns, alone, and is sound exactly when it is well formed. Assumes nothing.
use Prim.Native.Nat.{ℕ, suc, ◌+◌, ◌≤◌, ◌<◌}
use mathlib.Core.Path.{◌≡◌, refl, sym, ap, subst, ◌∙◌}
use Rattle.std.specs.declared.option.Option.TheVariants.{None}
use mathlib.Core.List.{List, [], ◌∷◌, map}
use native.Mathlib.Nat.{add-zero, zero-add, add-suc, suc-add}
use native.Mathlib.Omega.{arith}
use lib.IntN.{ℤ}
use lib.ListN.{length, length-map}
use borrow.Author.Tests.{le-ltb, eq-eqb}
use Rattle.rules.specs.Piece.{Piece, WellFormed}
use Rattle.std.specs.declared.result.Result.TheVariants.{Ok}
use Rattle.rules.specs.Lists.{Width, Lent, keys, ranges}
use Rattle.rules.specs.Answer.{Judgement, judge_list, judge}
use Rattle.rules.specs.declared.Kind.TheVariants.{Listing}
use Rattle.rules.proofs.Faults.{all_clear, all_formed}
use Rattle.form.specs.declared.Range.{Range}
use Rattle.form.specs.Shape.{Judged}
use Rattle.tariffs.specs.Placed.{placed}
use Rattle.tariffs.proofs.Laws.{or_sound}

-- structs with a start, an end and a value
module _ {P T : Type 0} (w : Width P) (s e : T → P) (v : T → ℤ) where
  abbrev pub range : T → Range
  range t = record { start = w.key (s t); end = w.key (e t); value = v t }

  by_place : (f g : ℕ → ℕ) (i : ℕ) (ys : List T) → ((k : ℕ) → f (k + i) ≡ keys w (map s ys) k) → ((k : ℕ) → g (k + i) ≡ keys w (map e ys) k) → ranges f g (λ j. j) i (length ys) ≡ placed range i ys
  by_place f g i [] a b = refl
  by_place f g i (y ∷ ys) a b =
      let p : f i ≡ w.key (s y) = ap f (sym (zero-add i)) ∙ a 0 in
      let q : g i ≡ w.key (e y) = ap g (sym (zero-add i)) ∙ b 0 in
      rw (p, q, by_place f g (suc i) ys (λ k. ap f (add-suc k i ∙ sym (suc-add k i)) ∙ a (suc k)) (λ k. ap g (add-suc k i ∙ sym (suc-add k i)) ∙ b (suc k)))

  module _ (ys : List T) where
    -- the list as columns
    abbrev pub column : Lent P
    column = record { starts = map s ys; ends = map e ys; values = map v ys; counts = length ys ∷ [] }

    abbrev starts : ℕ → ℕ
    starts = keys w column.starts

    abbrev ends : ℕ → ℕ
    ends = keys w column.ends

    in_columns : ranges starts ends (λ j. j) 0 (length ys) ≡ placed range 0 ys
    in_columns = by_place starts ends 0 ys (λ k. ap starts (add-zero k)) (λ k. ap ends (add-zero k))

    -- whatever the ends are
    pub alone : length ys ≤ 2048 → judge w Listing column ≡ judge_list None (placed range 0 ys)
    unfolding judge
    alone h =
        rw (length-map ys s, length-map ys e, length-map ys v, add-zero (length ys), eq-eqb (length ys) (length ys) refl, le-ltb 2048 (length ys) h, in_columns)
        (or_sound (judge_list None (placed range 0 ys)))

    -- what `form::judge` answers for the columns, and what `judge_tariffs` answers for the structs
    pub judged_alone : length ys ≤ 2048 → {c r : Judgement} → Judged w Listing column c → r ≡ judge_list None (placed range 0 ys) → r ≡ c
    judged_alone h c r = r ∙ sym (c.is ∙ alone h)

    -- where the ends are points
    pub sound_formed : ((i : ℕ) → i < length ys → ends i < w.points) → judge_list None (placed range 0 ys) ≡ Ok tt → WellFormed w.points (placed range 0 ys)
    sound_formed low =
        subst (λ (ps : List (Piece ℕ)). judge_list None ps ≡ Ok tt → WellFormed w.points ps) in_columns
        (λ h. (all_formed starts ends (λ j. j) w.points (length ys) low 0 (length ys ∷ []) (omega arith) (or_sound _ ∙ h)).0)

    pub formed_sound : WellFormed w.points (placed range 0 ys) → judge_list None (placed range 0 ys) ≡ Ok tt
    formed_sound = subst (λ (ps : List (Piece ℕ)). WellFormed w.points ps → judge_list None ps ≡ Ok tt) in_columns (λ h. sym (or_sound _) ∙ all_clear starts ends w.points 0 (length ys ∷ []) (h, tt))
