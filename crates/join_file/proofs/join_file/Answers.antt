-- `join_file` meets its contract: a refusal of the file is printed, and else what its operation answers. Assumes nothing.
use Prim.Native.Nat.{ℕ, ◌<◌}
use mathlib.Core.Path.{◌≡◌, sym, ap, ◌∙◌}
use mathlib.Core.List.{List}
use native.Mathlib.Omega.{arith}
use lib.IntN.{ℤ}
use lib.ListN.{get_or, take}
use Rattle.rules.specs.Lists.{Lent}
use Rattle.tariff_file.specs.File.{refused, code_of, number_of, records_of}
use Rattle.tariff_file.specs.Layout.{Bytes}
use Rattle.tariff_file.specs.declared.Refusal.{Refusal}
use Rattle.tariff_file.proofs.Places.{bytes_of}
use Rattle.file_reader.specs.Holds.{Lends}
use Rattle.file_reader.specs.declared.Contents.{Contents}
use Rattle.answer_text.specs.Answers.{answer, refusal_text}
use Rattle.answer_text.specs.Buffer.{Attempt, tries, attempt}
use Rattle.answer_text.proofs.Buffer.{number_printed}
use Rattle.printed.specs.Printed.{head, performed, printed}
use Rattle.printed.proofs.Records.{refusal_printed, task_printed}
use Rattle.join_file.proofs.join_file.Goals as goal
use Rattle.join_file.proofs.join_file.Goals.{in-Ok, in-Err}

-- the fronts of the columns that lend the lists of a file
abbrev fronts : Contents → Lent ℤ → Lent ℤ
fronts h c = record { starts = take h.ranges c.starts; ends = take h.ranges c.ends; values = take h.ranges c.values; counts = take h.head.lists c.counts }

-- a print of the file b to the text t
module _ (b t : List ℕ) (p : Attempt) where
  -- the refusal of a file is printed
  refusal_told : (r : Refusal) → records_of b ≡ refused r → (k n : ℕ) → k ≡ code_of r → n ≡ number_of r → p ≡ attempt (refusal_text k n) t → p ≡ attempt (printed b) t
  refusal_told r e k n f g q = q ∙ ap (λ (u : List ℕ). attempt u t) ((λ i. refusal_text (f i) (g i)) ∙ sym (refusal_printed b r e))

  -- what the operation answers is printed
  task_told : (h : Contents) (c : Lent ℤ) (l : Lends b h c) (y : (i : ℕ) → get_or b i 0 < 256) → p ≡ attempt (answer (performed (head h.head.operation h.head.combiner) h.head.task (fronts h c))) t → p ≡ attempt (printed b) t
  task_told h c l y q =
      let g = head h.head.operation h.head.combiner in
      let z : Bytes b = bytes_of b y 0 in
      q
      ∙ ap (λ (m : Lent ℤ). attempt (answer (performed g h.head.task m)) t) l.lent
      ∙ ap (λ (u : List ℕ). attempt u t) (sym (task_printed b g l.lists z l.read h.head.task l.known))

pub returns-clause-text_after : goal.returns-clause-text_after
returns-clause-text_after c =
    let b = c.args.file.now in
    let t = c.args.text.now in
    rw c.unwrap_or.ensures
    (number_printed c.match-contents.length (printed b) c.match-contents.text t
    (elim c.match-contents.branch [
      | in-Ok w ↦ (λ i. tries (w.length-is i) (w.text-is i)) ∙ task_told b t _ w.in-Ok.contents _ w.in-Ok.ensures (λ i. omega (arith, c.type_inv.file i)) w.perform-length.ensures
      | in-Err w ↦ (λ i. tries (w.length-is i) (w.text-is i)) ∙ refusal_told b t _ w.in-Err.refusal w.in-Err.ensures _ _ w.code.ensures w.number.ensures w.print_refusal-length.ensures
    ]))
