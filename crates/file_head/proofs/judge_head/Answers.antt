-- `file_head::judge_head` meets its contract. Assumes nothing.
use mathlib.Core.Path.{sym, ◌∙◌}
use Rattle.file_head.proofs.Heads.{head_unnamed, head_tests}
use Rattle.file_head.proofs.judge_head.Goals as goal

pub returns-in_default : goal.returns-in_default
returns-in_default c = head_unnamed _ _ _ c.in_default.ensures

pub returns-then-lists-gt-MAX_LISTS : goal.returns-then-lists-gt-MAX_LISTS
returns-then-lists-gt-MAX_LISTS c = (head_tests _ c.args.combiner c.args.lists _ c.in-Ok.ensures).over c.if-lists-gt-MAX_LISTS.true

pub returns-then-not-lists_right : goal.returns-then-not-lists_right
returns-then-not-lists_right c = (head_tests _ c.args.combiner _ _ c.in-Ok.ensures).not_two c.if-lists-gt-MAX_LISTS.false (sym c.lists_right.ensures ∙ c.if-not-lists_right.true)

pub returns-then-not-combiner_right : goal.returns-then-not-combiner_right
returns-then-not-combiner_right c =
    (head_tests _ _ _ _ c.in-Ok.ensures).unknown c.if-lists-gt-MAX_LISTS.false (sym c.lists_right.ensures ∙ c.if-not-lists_right.false) (sym c.combiner_right.ensures ∙ c.if-not-combiner_right.true)
