-- `width` meets its contract. Assumes nothing.
use native.Mathlib.Omega.{arith}
use borrow.Author.Rules.{rules}
use mir.Syntax.{w64}
use mir.Val.{SFits, of_z, to_z}
use lib.IntN.{pos}
use lib.Signed.{lt_z}
use Rattle.text_fields.proofs.Signs.{long, one_byte}
use Rattle.text_fields.proofs.Field.width.Goals as goal

pub returns-in-Number : goal.returns-in-Number
returns-in-Number c =
    let f : SFits w64 c.in-Number.z = search rules in
    rw c.in-Number.is (omega (arith, long c.in-Number.z c.unsigned_abs.result f.sfits c.unsigned_abs.ensures.value, one_byte (lt_z (to_z w64 (of_z w64 c.in-Number.z)) (pos 0))))
