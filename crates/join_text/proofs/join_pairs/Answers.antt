-- `join_text::join_pairs` meets its contract: what the join left is printed. Assumes nothing.
use mathlib.Core.Path.{sym, ap, ◌∙◌}
use mathlib.Core.List.{List}
use native.Mathlib.Omega.{arith}
use Prim.Native.Nat.{ℕ}
use lib.IntN.{pos}
use lib.ListN.{length-replicate}
use Rattle.rules.specs.Lists.{held}
use Rattle.rules.specs.Paired.{columns}
use Rattle.answer_text.specs.Answers.{refusal_text}
use Rattle.answer_text.specs.Buffer.{attempt}
use Rattle.printed.specs.Printed.{head}
use Rattle.join_text.proofs.Told.{paired_few, paired_done, paired_refused}
use Rattle.join_text.proofs.join_pairs.Goals as goal

-- the columns have the pieces
pub print_paired-requires : goal.print_paired-requires
print_paired-requires c =
    let m = c.join_lists-answer in
    let d = columns m.new.out_start m.new.out_end m.new.out_left m.new.out_right m.new.out_presence in
    let few = paired_few c.args.how (held c.args.lent) d c.in-Ok.ensures in
    let wide = length-replicate 4095 (pos 0) in
    let there = length-replicate {A = ℕ} 4095 0 in
    rw c.header.ensures (omega (arith, few, wide, there, m.auto.out_start, m.auto.out_end, m.auto.out_left, m.auto.out_right, m.auto.out_presence))

pub returns-in-Ok : goal.returns-in-Ok
returns-in-Ok c =
    let m = c.join_lists-answer in
    let d = columns m.new.out_start m.new.out_end m.new.out_left m.new.out_right m.new.out_presence in
    let h = head c.args.head.operation c.args.head.combiner in
    (rw c.header.ensures at c.print_paired.ensures)
    ∙ ap (λ (u : List ℕ). attempt u c.args.text.now) (sym (paired_done c.args.how (held c.args.lent) d h c.in-Ok.ensures))

pub returns-in-Err : goal.returns-in-Err
returns-in-Err c =
    let m = c.join_lists-answer in
    let d = columns m.new.out_start m.new.out_end m.new.out_left m.new.out_right m.new.out_presence in
    let h = head c.args.head.operation c.args.head.combiner in
    c.print_refusal.ensures
    ∙ ap (λ (u : List ℕ). attempt u c.args.text.now)
    ((λ i. refusal_text (c.code.ensures i) (c.number.ensures i)) ∙ sym (paired_refused c.args.how (held c.args.lent) d h c.in-Err.ensures))
