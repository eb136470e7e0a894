-- `join_text::join_many` meets its contract: what the merge left is printed. Assumes nothing.
use mathlib.Core.Path.{sym, ap, ◌∙◌}
use mathlib.Core.List.{List}
use native.Mathlib.Omega.{arith}
use Prim.Native.Nat.{ℕ}
use lib.IntN.{pos}
use lib.ListN.{length-replicate}
use Rattle.rules.specs.Lists.{held}
use Rattle.rules.specs.Merged.{columns}
use Rattle.answer_text.specs.Answers.{refusal_text}
use Rattle.answer_text.specs.Buffer.{attempt}
use Rattle.printed.specs.Printed.{head}
use Rattle.join_text.proofs.Told.{merged_few, merged_done, merged_refused}
use Rattle.join_text.proofs.join_many.Goals as goal

-- the columns have the pieces
pub print_merged-requires : goal.print_merged-requires
print_merged-requires c =
    let m = c.merge_lists-answer in
    let few = merged_few c.args.how (held c.args.lent) (columns m.new.out_start m.new.out_end m.new.out_value) c.in-Ok.ensures in
    rw c.header.ensures (omega (arith, few, length-replicate 4095 (pos 0), m.auto.out_start, m.auto.out_end, m.auto.out_value))

pub returns-in-Ok : goal.returns-in-Ok
returns-in-Ok c =
    let m = c.merge_lists-answer in
    let d = columns m.new.out_start m.new.out_end m.new.out_value in
    let h = head c.args.head.operation c.args.head.combiner in
    (rw c.header.ensures at c.print_merged.ensures)
    ∙ ap (λ (u : List ℕ). attempt u c.args.text.now) (sym (merged_done c.args.how (held c.args.lent) d h c.in-Ok.ensures))

pub returns-in-Err : goal.returns-in-Err
returns-in-Err c =
    let m = c.merge_lists-answer in
    let d = columns m.new.out_start m.new.out_end m.new.out_value in
    let h = head c.args.head.operation c.args.head.combiner in
    c.print_refusal.ensures
    ∙ ap (λ (u : List ℕ). attempt u c.args.text.now)
    ((λ i. refusal_text (c.code.ensures i) (c.number.ensures i)) ∙ sym (merged_refused c.args.how (held c.args.lent) d h c.in-Err.ensures))
