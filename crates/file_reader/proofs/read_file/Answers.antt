-- `file_reader::read_file` meets its contract. Assumes nothing.
use native.Mathlib.Omega.{arith}
use borrow.Author.Rules.{rules}
use lib.Seq.{length-take-le}
use Rattle.std.proofs.lemmas.Bool.Decides.{nat_tests}
use Rattle.std.proofs.lemmas.Result.{err_from_is_err_and}
use Rattle.tariff_file.proofs.File.{records_long}
use Rattle.file_reader.proofs.Files.{file_unopened, file_stops, file_over, file_held}
use Rattle.file_reader.proofs.read_file.Goals as goal

pub returns-then-file-gt-MAX_BYTES : goal.returns-then-file-gt-MAX_BYTES
returns-then-file-gt-MAX_BYTES c = records_long _ c.if-file-gt-MAX_BYTES.true

pub returns-in_err-head : goal.returns-in_err-head
returns-in_err-head c =
    let p = err_from_is_err_and c.from_residual.result c.from_residual.ensures.1 in rw (p.1, p.2) (file_unopened _ c.if-file-gt-MAX_BYTES.false c.in_err-head.ensures)

pub returns-in_err-rest : goal.returns-in_err-rest
returns-in_err-rest c =
    let p = err_from_is_err_and c.from_residual-in_err-rest.result c.from_residual-in_err-rest.ensures.1 in
    let h = c.in_ok-head in
    rw (p.1, p.2) (file_stops _ c.if-file-gt-MAX_BYTES.false h.head h.lists h.ensures _ (length-take-le h.head.lists c.args.counts.now (omega (arith, h.ensures.few))) c.in_err-rest.ensures.read)

pub returns-then-not-is_empty : goal.returns-then-not-is_empty
returns-then-not-is_empty c =
    let h = c.in_ok-head in
    file_over _ c.if-file-gt-MAX_BYTES.false h.head h.lists h.ensures _ (length-take-le h.head.lists c.args.counts.now (omega (arith, h.ensures.few))) _ _ _ _ _ _ c.in_ok-rest.ensures.read (grind (arith, nat_tests, c.if-not-is_empty.ensures))

pub returns : goal.returns
returns c =
    let h = c.in_ok-head in
    file_held _ c.if-file-gt-MAX_BYTES.false h.head h.lists h.ensures _ (length-take-le h.head.lists c.args.counts.now (omega (arith, h.ensures.few))) _ _ _ _ _ _ c.in_ok-rest.ensures.read (grind (arith, nat_tests, c.if-not-is_empty.ensures)) _ (grind arith)
    (search rules, search rules, search rules)
