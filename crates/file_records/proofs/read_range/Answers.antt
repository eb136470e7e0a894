-- `file_records::read_range` meets its contract. Assumes nothing.
use Prim.Native.Nat.{◌≤◌}
use mathlib.Core.Path.{refl, ◌∙◌}
use native.Mathlib.Omega.{arith}
use lib.ListN.{length}
use Rattle.std.specs.Int.{w32, w64}
use Rattle.std.proofs.lemmas.Int.{to_z-of_z}
use Rattle.std.proofs.lemmas.Result.{err_from_is_err_and}
use borrow.Author.Rules.{rules}
use Rattle.file_records.specs.Columns.{columns_of}
use Rattle.file_records.proofs.Taken.{same_none, set_long}
use Rattle.file_records.proofs.Numbers.{signed_at}
use Rattle.file_records.proofs.Ranges.{range_stops, range_put}
use Rattle.file_records.proofs.read_range.Goals as goal

pub returns-in_err-rest : goal.returns-in_err-rest
returns-in_err-rest c =
    let p = err_from_is_err_and c.from_residual.result c.from_residual.ensures.1 in
    record { read = rw (p.1, p.2) (range_stops c.args.from c.in_err-rest.field-0.0 c.in_err-rest.ensures.marked); same = same_none c.args.columns.now }

pub returns : goal.returns
returns c =
    let b = c.args.from.bytes.now in
    let long : 22 ≤ length b = c.in_ok-rest.ensures.long in
    let start = signed_at w64 8 2 b _ refl refl refl (omega arith) c.big_endian.ensures.0 c.big_endian.ensures.1 in
    let end = signed_at w64 8 10 b _ refl refl refl (omega arith) c.big_endian-2.ensures.0 c.big_endian-2.ensures.1 in
    let value = signed_at w32 4 18 b _ refl refl refl (omega arith) c.big_endian-3.ensures.0 c.big_endian-3.ensures.1 in
    let before = columns_of c.args.columns.now in
    record {
      read =
          range_put c.args.from c.in_ok-rest.rest c.in_ok-rest.ensures.marked before c.args.place c.requires _ _ _
          (to_z-of_z w64 c.cast_signed.result (search rules) ∙ c.cast_signed.ensures ∙ start)
          (to_z-of_z w64 c.cast_signed-2.result (search rules) ∙ c.cast_signed-2.ensures ∙ end)
          (to_z-of_z w32 c.cast_signed-3.result (search rules) ∙ c.cast_signed-3.ensures ∙ value);
      same = record { starts = refl; ends = refl; values = refl; long = set_long before c.args.place _ _ _ };
    }
