-- The examples are computed. Assumes nothing.
use mathlib.Core.Path.{◌≡◌, refl}
use mathlib.Core.List.{List, map}
use Rattle.rules.specs.Lists.{key64, point64}
use Rattle.tariff_file.specs.Layout.{number, digits, bits, integer, field_bytes, field_value, values_bytes, values, record_bytes}
use Rattle.tariff_file.specs.Reader.{one}
use Rattle.tariff_file.specs.File.{Reading, read_range, read_ranges, read_list, read_lists, read_file, records_of, read, written}
use Rattle.tariff_file.specs.Examples.{rows, example, example_lists, head}

pub rows_read : ◌≡◌ {A = List Reading} (map (λ r. read r.file) rows) (map (λ r. r.want) rows)
unfolding number integer field_value values one read_range read_ranges read_list read_lists read_file records_of read key64 point64
rows_read = refl

pub example_written : written (head 5 1) example_lists ≡ example
unfolding digits bits field_bytes values_bytes record_bytes
example_written = refl
