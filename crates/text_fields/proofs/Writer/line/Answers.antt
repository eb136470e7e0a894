-- `line` meets its contract. Assumes nothing.
use mathlib.Core.List.{[], ◌∷◌, map}
use Rattle.answer_text.specs.Lines.{parted}
use Rattle.text_fields.specs.Fields.{spelled}
use Rattle.text_fields.proofs.Writing.{both}
use Rattle.text_fields.proofs.Writer.line.Goals as goal

pub returns : goal.returns
returns c = both (parted (map spelled c.args.fields.now)) (10 ∷ []) c.requires c.parted.ensures c.byte.ensures
