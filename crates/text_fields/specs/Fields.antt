-- What stands in a line, and how much of some room it leaves. Assumes nothing.
use Rattle.std.specs.Prelude.{ℕ, ◌+◌, ◌<◌, ◌≡◌, List, [], ◌∷◌, map, length, MatchOption}
use Rattle.std.specs.declared.option.Option.{Option}
use Rattle.text_fields.specs.declared.Field.{Field}
use Rattle.text_fields.specs.declared.Field.TheVariants.{Join, Refused, Missing, Count, Number}
use Rattle.answer_text.specs.Numbers.{decimal, signed}
use Rattle.answer_text.specs.Lines.{line}

-- a field's bytes
abbrev pub spelled : Field → List ℕ
spelled Join = 106 ∷ 111 ∷ 105 ∷ 110 ∷ []
spelled Refused = 114 ∷ 101 ∷ 102 ∷ 117 ∷ 115 ∷ 101 ∷ 100 ∷ []
spelled Missing = 45 ∷ []
spelled (Count n) = decimal n
spelled (Number z) = signed z

-- those of a line
abbrev pub spelled_line : List Field → List ℕ
spelled_line fs = line (map spelled fs)

-- what a text leaves of some room, or nothing where it does not fit
abbrev pub Spares : ℕ → List ℕ → Option ℕ → Type 0
Spares room t r = MatchOption r (room < length t) (λ spare. length t + spare ≡ room)
