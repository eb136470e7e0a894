-- Whatever its ranges, what is printed of the records of a file is what its operation answers: faulty ranges are refused by the join as by the reader. Assumes nothing.
use Prim.Native.Nat.{ℕ}
use mathlib.Core.Path.{◌≡◌, refl, sym, ap, ◌∙◌}
use Rattle.std.specs.declared.option.Option.TheVariants.{Some}
use mathlib.Core.List.{List}
use lib.IntN.{ℤ, pos}
use lib.ListN.{length, get_or}
use Rattle.std.specs.declared.result.Result.TheVariants.{Ok, Err}
use Rattle.rules.specs.Lists.{Lent, instants, lists, tracks}
use Rattle.rules.specs.Answer.{Judgement, Outcome, refusal_code, refusal_number, judge, judge_lists, settle}
use Rattle.rules.specs.Merged as merged_columns
use Rattle.rules.specs.Paired as paired_columns
use Rattle.rules.specs.Merged.{Merged}
use Rattle.rules.specs.Paired.{Paired}
use Rattle.rules.specs.Outcomes.{pairing}
use Rattle.rules.specs.TwoWay.{paired}
use Rattle.rules.specs.declared.Refusal.{Refusal as CallRefusal}
use Rattle.rules.specs.declared.Kind.TheVariants.{TwoWay}
use Rattle.rules.specs.declared.Pairing.{Pairing}
use Rattle.many_way_rules.specs.Sheet.{Tariff, lend}
use Rattle.many_way_rules.specs.Operations as operations
use Rattle.many_way_rules.specs.Operations.{merged}
use Rattle.many_way_rules.specs.Outcomes.{merging}
use Rattle.many_way_rules.specs.declared.Operation.{Operation}
use Rattle.many_way_rules.specs.declared.Operation.TheVariants.{Join, Select}
use Rattle.tariff_file.specs.Layout.{Bytes}
use Rattle.tariff_file.specs.File as file
use Rattle.tariff_file.specs.File.{Head, Reading, accepted, formed, checked, records_of, read, Sound}
use Rattle.tariff_file.specs.declared.Refusal.{Refusal}
use Rattle.tariff_file.specs.declared.Task.{Task}
use Rattle.tariff_file.specs.declared.Task.TheVariants.{Pair, Merge, Choose}
use Rattle.tariff_file.proofs.File.{records_accepted}
use Rattle.tariff_file.proofs.Read.{read_refused}
use Rattle.tariff_file.proofs.Columns.{kind_of, file_judged}
use Rattle.answer_text.specs.Answers as text
use Rattle.answer_text.specs.Answers.{Answer, answer, rows, pairs, refusal_text}
use Rattle.printed.specs.Printed.{merge_room, pair_room, told, paired_answer, merged_answer, performed, asked, answered, printed}

-- a refusal of the file itself
pub refusal_printed : (b : List ℕ) (r : Refusal) → records_of b ≡ file.refused r → printed b ≡ refusal_text (file.code_of r) (file.number_of r)
unfolding printed refusal_text
refusal_printed b r e = ap (λ (x : Reading). answer (answered x)) ((read_refused b r).1 e)

-- what the join refuses is told as a refusal
module _ (r : CallRefusal) (h : Head) (l : Lent ℤ) where
  merged_fault : (o : Operation) → judge instants (operations.kind_of o) l ≡ Err r → merged_answer h o l ≡ text.refused (refusal_code r) (refusal_number r)
  unfolding merged_answer merging
  merged_fault o j =
      let xs = merged o instants.points (lists instants l) in
      let out : Judgement → Outcome (Merged ℤ) = λ j. settle j (length xs) (merged_columns.room merge_room) merge_room (merged_columns.lay instants 0 xs merge_room) in
      ap (λ (j : Judgement). told (out j).answer (λ n. text.merged h.operation h.combiner (length l.counts) (rows (out j).columns n))) j

  paired_fault : (p : Pairing) → judge instants TwoWay l ≡ Err r → paired_answer h p l ≡ text.refused (refusal_code r) (refusal_number r)
  unfolding paired_answer pairing
  paired_fault p j =
      let xs = paired p instants.points (tracks instants l) in
      let out : Judgement → Outcome (Paired ℤ) = λ j. settle j (length xs) (paired_columns.room pair_room) pair_room (paired_columns.lay instants (λ i. get_or l.values i (pos 0)) 0 xs pair_room) in
      ap (λ (j : Judgement). told (out j).answer (λ n. text.paired h.operation h.combiner (length l.counts) (pairs (out j).columns n))) j

  performed_fault : (t : Task) → judge instants (kind_of t h.combiner) l ≡ Err r → performed h t l ≡ text.refused (refusal_code r) (refusal_number r)
  performed_fault (Pair p) j = paired_fault p j
  performed_fault (Merge d) j = merged_fault (Join d h.combiner) j
  performed_fault (Choose p d) j = merged_fault (Select p d) j

module _ (b : List ℕ) (h : Head) (ls : List (Tariff ℤ)) (y : Bytes b) (e : records_of b ≡ accepted h ls) where
  abbrev pub held : Sound h ls
  held = (records_accepted b h ls y e).1

  pub records_printed : printed b ≡ answer (performed h held.task (lend ls))
  unfolding printed read
  records_printed = go (judge_lists (tracks instants (lend ls))) refl
    where
      is : (j : Judgement) → judge_lists (tracks instants (lend ls)) ≡ j → read b ≡ formed j h ls
      is j q = ap checked e ∙ ap (λ (j : Judgement). formed j h ls) q

      go : (j : Judgement) → judge_lists (tracks instants (lend ls)) ≡ j → printed b ≡ answer (performed h held.task (lend ls))
      go (Ok u) q = ap (λ (x : Reading). answer (answered x)) (is (Ok u) q) ∙ ap (λ t. answer (asked h t (lend ls))) held.operation_known
      go (Err r) q =
          ap (λ (x : Reading). answer (answered x)) (is (Err r) q)
          ∙ ap answer (sym (performed_fault r h (lend ls) held.task (file_judged h ls held ∙ q)))

  -- by the task that its operation's number has
  pub task_printed : (t : Task) → file.task_of h.operation ≡ Some t → printed b ≡ answer (performed h t (lend ls))
  task_printed t k =
      let same : Some held.task ≡ Some t = sym held.operation_known ∙ k in
      let is : held.task ≡ t = cc in
      records_printed ∙ ap (λ (t : Task). answer (performed h t (lend ls))) is
