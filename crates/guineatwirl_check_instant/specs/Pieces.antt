-- The ranges of a list of tariff structs in order, their points told by their keys. Assumes nothing.
use Rattle.std.specs.Prelude.{ℕ, List}
use Rattle.rules.specs.Piece.{Piece}
use Rattle.rules.specs.Lists.{instants}
use Rattle.form.specs.declared.Range.{Range}
use Rattle.tariffs.specs.Placed.{placed}
use Rattle.guineatwirl_check_instant.specs.declared.Tariff.{Tariff}

-- the range of a tariff
abbrev pub range : Tariff → Range
range t = record { start = instants.key t.start; end = instants.key t.end; value = t.value }

abbrev pub pieces : List Tariff → List (Piece ℕ)
pieces l = placed range 0 l
