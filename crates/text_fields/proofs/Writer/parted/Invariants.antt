use lib.ListN.{take}
use Rattle.std.specs.List.{flat_map}
use Rattle.text_fields.specs.Writing.{Writes}
use Rattle.text_fields.proofs.Lines.{after_space}
use Rattle.text_fields.proofs.Writer.parted.Given as goal

abbrev pub invariant-loop-field : goal.invariant-loop-field
invariant-loop-field l = Writes l.initial.self (flat_map after_space (take l.field-index l.others)) l.self
