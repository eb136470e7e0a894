use Prim.Native.Nat.{◌+◌, max}
use mathlib.Core.Path.{◌≡◌}
use lib.ListN.{length, take}
use Rattle.std.specs.List.{flat_map}
use Rattle.text_fields.specs.Fields.{spelled}
use Rattle.text_fields.proofs.after_line.Given as goal

abbrev pub invariant-loop-field : goal.invariant-loop-field
invariant-loop-field l = length (flat_map spelled (take l.field-index l.fields)) + l.spare + max (length l.fields) 1 ≡ l.room
