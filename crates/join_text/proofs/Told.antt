-- What an operation left in columns with room for 4,095 pieces is what is printed: the pieces, or the refusal. Assumes nothing.
use Prim.Native.Nat.{ℕ, ◌≤◌, ◌<◌}
use mathlib.Core.Path.{◌≡◌, refl, sym, ap}
use mathlib.Core.List.{List}
use native.Mathlib.Omega.{arith}
use Rattle.std.specs.declared.result.Result.TheVariants.{Ok, Err}
use lib.IntN.{ℤ, pos}
use lib.ListN.{length, get_or, length-replicate}
use Rattle.rules.specs.Lists.{Lent, instants, lists, tracks}
use Rattle.rules.specs.Answer.{Outcome, refusal_code, refusal_number, judge, settle, leaves}
use Rattle.rules.specs.Merged as merged_columns
use Rattle.rules.specs.Paired as paired_columns
use Rattle.rules.specs.Merged.{Merged}
use Rattle.rules.specs.Paired.{Paired}
use Rattle.rules.specs.Outcomes.{pairing}
use Rattle.rules.specs.TwoWay.{paired}
use Rattle.rules.specs.declared.Refusal.{Refusal}
use Rattle.rules.specs.declared.Refusal.TheVariants.{NoRoom}
use Rattle.rules.specs.declared.Kind.{Kind}
use Rattle.rules.specs.declared.Kind.TheVariants.{TwoWay}
use Rattle.rules.specs.declared.Pairing.{Pairing}
use Rattle.rules.proofs.Refusals.{given}
use Rattle.many_way_rules.specs.Operations.{kind_of, merged}
use Rattle.many_way_rules.specs.Outcomes.{merging}
use Rattle.many_way_rules.specs.declared.Operation.{Operation}
use Rattle.tariff_file.specs.File.{Head}
use Rattle.answer_text.specs.Answers as text
use Rattle.answer_text.specs.Answers.{answer, rows, pairs, merged_text, paired_text, refusal_text}
use Rattle.printed.specs.Printed.{merge_room, pair_room, told, paired_answer, merged_answer}

-- as many pieces as there is room for
within : {C : Type 0} (k : Kind) (l : Lent ℤ) (needed room : ℕ) (c a : C) {n : ℕ} → (settle (judge instants k l) needed room c a).answer ≡ Ok n → n ≤ room
within k l needed room c a {n} e =
    let g = (given instants k l needed room c a (Ok n)).0 e in
    let few : room < needed → ⊥ = λ z. g.1 (Err (NoRoom needed)) (omega arith) (z, refl) in
    omega (arith, g.0)

-- a many-way operation
module _ (o : Operation) (l : Lent ℤ) (d : Merged ℤ) where
  pub merged_few : {n : ℕ} → leaves (Ok n) d ≡ merging instants o l merge_room → n ≤ 4095
  unfolding merging
  merged_few e =
      let xs = merged o instants.points (lists instants l) in
      let room : merged_columns.room merge_room ≡ 4095 = rw (length-replicate 4095 (pos 0)) in
      omega (arith, room, within (kind_of o) l (length xs) (merged_columns.room merge_room) merge_room (merged_columns.lay instants 0 xs merge_room) (ap (λ (x : Outcome (Merged ℤ)). x.answer) (sym e)))

  module _ (h : Head) where
    abbrev merged_told : Outcome (Merged ℤ) → List ℕ
    merged_told x = answer (told x.answer (λ n. text.merged h.operation h.combiner (length l.counts) (rows x.columns n)))

    pub merged_done : {n : ℕ} → leaves (Ok n) d ≡ merging instants o l merge_room → answer (merged_answer h o l) ≡ merged_text h.operation h.combiner (length l.counts) d n
    unfolding merged_answer merged_text
    merged_done e = ap merged_told (sym e)

    pub merged_refused : {r : Refusal} → leaves (Err r) d ≡ merging instants o l merge_room → answer (merged_answer h o l) ≡ refusal_text (refusal_code r) (refusal_number r)
    unfolding merged_answer refusal_text
    merged_refused e = ap merged_told (sym e)

-- a two-way operation
module _ (p : Pairing) (l : Lent ℤ) (d : Paired ℤ) where
  pub paired_few : {n : ℕ} → leaves (Ok n) d ≡ pairing instants p l pair_room → n ≤ 4095
  unfolding pairing
  paired_few e =
      let xs = paired p instants.points (tracks instants l) in
      let room : paired_columns.room pair_room ≡ 4095 = rw (length-replicate 4095 (pos 0), length-replicate {A = ℕ} 4095 0) in
      omega (arith, room, within TwoWay l (length xs) (paired_columns.room pair_room) pair_room (paired_columns.lay instants (λ i. get_or l.values i (pos 0)) 0 xs pair_room) (ap (λ (x : Outcome (Paired ℤ)). x.answer) (sym e)))

  module _ (h : Head) where
    abbrev paired_told : Outcome (Paired ℤ) → List ℕ
    paired_told x = answer (told x.answer (λ n. text.paired h.operation h.combiner (length l.counts) (pairs x.columns n)))

    pub paired_done : {n : ℕ} → leaves (Ok n) d ≡ pairing instants p l pair_room → answer (paired_answer h p l) ≡ paired_text h.operation h.combiner (length l.counts) d n
    unfolding paired_answer paired_text
    paired_done e = ap paired_told (sym e)

    pub paired_refused : {r : Refusal} → leaves (Err r) d ≡ pairing instants p l pair_room → answer (paired_answer h p l) ≡ refusal_text (refusal_code r) (refusal_number r)
    unfolding paired_answer refusal_text
    paired_refused e = ap paired_told (sym e)
