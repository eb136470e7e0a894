-- The printed text of the file of 58 bytes is computed. Assumes nothing.
use mathlib.Core.Path.{◌≡◌, refl}
use mathlib.Core.List.{[], ◌∷◌}
use Rattle.rules.specs.Lists.{key64, point64}
use Rattle.rules.specs.Answer.{judge}
use Rattle.rules.specs.Runs.{cuts, line, pieces, runs}
use Rattle.many_way_rules.specs.Operations.{merged}
use Rattle.many_way_rules.specs.Outcomes.{merging}
use Rattle.tariff_file.specs.Layout.{number, integer, field_value, values}
use Rattle.tariff_file.specs.Reader.{one}
use Rattle.tariff_file.specs.File.{read_range, read_ranges, read_list, read_lists, read_file, records_of, read}
use Rattle.tariff_file.specs.Examples.{example}
use Rattle.answer_text.specs.Numbers.{places, decimal, signed}
use Rattle.printed.specs.Printed.{merged_answer, printed}

-- `join 5 1 2 3`, `1 4 100`, `5 5 120`, `6 9 20`
pub example_printed : printed example
    ≡ 106 ∷ 111 ∷ 105 ∷ 110 ∷ 32 ∷ 53 ∷ 32 ∷ 49 ∷ 32 ∷ 50 ∷ 32 ∷ 51 ∷ 10
    ∷ 49 ∷ 32 ∷ 52 ∷ 32 ∷ 49 ∷ 48 ∷ 48 ∷ 10
    ∷ 53 ∷ 32 ∷ 53 ∷ 32 ∷ 49 ∷ 50 ∷ 48 ∷ 10
    ∷ 54 ∷ 32 ∷ 57 ∷ 32 ∷ 50 ∷ 48 ∷ 10 ∷ []
unfolding key64 point64 judge cuts line pieces runs merged merging number integer field_value values one read_range read_ranges read_list read_lists read_file records_of read places decimal signed merged_answer printed
example_printed = refl
