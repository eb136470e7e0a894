-- The printed text of a tariff file: it is read, joined in columns with room for 4,095 pieces, and printed. Assumes nothing.
use Rattle.std.specs.Prelude.{ℕ, List, ℤ, pos, length, replicate}
use Rattle.std.specs.declared.option.Option.{Option}
use Rattle.std.specs.declared.option.Option.TheVariants.{None, Some}
use Rattle.std.specs.declared.result.Result.TheVariants.{Ok, Err}
use Rattle.rules.specs.Lists.{Lent, instants}
use Rattle.rules.specs.Answer.{refusal_code, refusal_number}
use Rattle.rules.specs.Answer.{Answer as Answered}
use Rattle.rules.specs.Merged.{Merged}
use Rattle.rules.specs.Paired.{Paired}
use Rattle.rules.specs.Outcomes.{pairing}
use Rattle.rules.specs.declared.Pairing.{Pairing}
use Rattle.many_way_rules.specs.Sheet.{lend}
use Rattle.many_way_rules.specs.Outcomes.{merging}
use Rattle.many_way_rules.specs.declared.Operation.{Operation}
use Rattle.many_way_rules.specs.declared.Operation.TheVariants.{Join, Select}
use Rattle.tariff_file.specs.File as file
use Rattle.tariff_file.specs.File.{Head, Reading, ill_formed, accepted, task_of, read}
use Rattle.tariff_file.specs.declared.Task.{Task}
use Rattle.tariff_file.specs.declared.Task.TheVariants.{Pair, Merge, Choose}
use Rattle.answer_text.specs.Answers.{Answer, merged, paired, refused, rows, pairs, answer}

-- columns with room for the most pieces that the ranges of a file give
abbrev pub merge_room : Merged ℤ
merge_room = record { start = replicate 4095 (pos 0); end = replicate 4095 (pos 0); value = replicate 4095 (pos 0) }

abbrev pub pair_room : Paired ℤ
pair_room = record { start = replicate 4095 (pos 0); end = replicate 4095 (pos 0); left = replicate 4095 (pos 0); right = replicate 4095 (pos 0); presence = replicate 4095 0 }

-- the pieces where they are counted, else the refusal's code and number
abbrev pub told : Answered → (ℕ → Answer) → Answer
told (Ok n) done = done n
told (Err r) done = refused (refusal_code r) (refusal_number r)

abbrev pub head : ℕ → ℕ → Head
head o c = record { operation = o; combiner = c }

module _ (h : Head) where
  -- a two-way operation, and a many-way one, over lent lists
  unfoldable pub paired_answer : Pairing → Lent ℤ → Answer
  unfolding pairing
  paired_answer p l =
      let o = pairing instants p l pair_room in
      told o.answer (λ n. paired h.operation h.combiner (length l.counts) (pairs o.columns n))

  unfoldable pub merged_answer : Operation → Lent ℤ → Answer
  unfolding merging
  merged_answer a l =
      let o = merging instants a l merge_room in
      told o.answer (λ n. merged h.operation h.combiner (length l.counts) (rows o.columns n))

  abbrev pub performed : Task → Lent ℤ → Answer
  performed (Pair p) l = paired_answer p l
  performed (Merge a) l = merged_answer (Join a h.combiner) l
  performed (Choose p a) l = merged_answer (Select p a) l

  -- a file that is accepted has a known operation
  abbrev pub asked : Option Task → Lent ℤ → Answer
  asked None l = refused 13 0
  asked (Some t) l = performed t l

abbrev pub answered : Reading → Answer
answered (file.refused r) = refused (file.code_of r) (file.number_of r)
answered (ill_formed r) = refused (refusal_code r) (refusal_number r)
answered (accepted h ls) = asked h (task_of h.operation) (lend ls)

unfoldable pub printed : List ℕ → List ℕ
unfolding read paired_answer merged_answer
printed b = answer (answered (read b))
