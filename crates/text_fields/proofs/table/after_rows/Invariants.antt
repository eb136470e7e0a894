use Prim.Native.Nat.{◌+◌}
use mathlib.Core.Path.{◌≡◌}
use lib.ListN.{length}
use Rattle.text_fields.specs.Tables.{rows_text}
use Rattle.text_fields.proofs.table.after_rows.Given as goal

abbrev pub invariant-loop-i : goal.invariant-loop-i
invariant-loop-i g l = length (rows_text (g.T.Table.fields l.table) l.i) + l.spare ≡ l.room
