-- `file_head::head_at` meets its contract. Assumes nothing.
use mathlib.Core.Path.{refl}
use Rattle.std.proofs.lemmas.Result.{err_from_is_err_and}
use Rattle.tariff_file.specs.File.{head_layout, head_fault}
use Rattle.file_head.proofs.Heads.{head_refused, head_opens}
use Rattle.file_head.proofs.head_at.Goals as goal

pub returns-in_err-task : goal.returns-in_err-task
returns-in_err-task c =
    let r = c.in_ok-rest.ensures in
    let p = err_from_is_err_and c.from_residual-in_err-task.result c.from_residual-in_err-task.ensures.1 in
    rw (p.1, p.2) (head_refused _ c.in_ok-rest.rest (r.marked head_layout head_fault refl refl refl) r.long _ c.big_endian-lists.ensures.0 c.in_err-task.ensures)

pub returns : goal.returns
returns c =
    let r = c.in_ok-rest.ensures in
    head_opens _ c.in_ok-rest.rest (r.marked head_layout head_fault refl refl refl) r.long _ c.big_endian-lists.ensures.0 c.in_ok-task.ensures
