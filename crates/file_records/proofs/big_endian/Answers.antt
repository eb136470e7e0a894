-- `file_records::big_endian` meets its contract. Assumes nothing.
use mathlib.Core.Path.{◌≡◌, refl, ◌∙◌}
use native.Mathlib.Omega.{arith}
use lib.ListN.{length}
use Rattle.tariff_file.specs.Layout.{number}
use Rattle.tariff_file.proofs.Number.{number_lt}
use Rattle.tariff_file.proofs.Places.{bytes_of}
use Rattle.file_records.proofs.Numbers.{number_padded}
use Rattle.file_records.proofs.big_endian.Goals as goal

pub returns : goal.returns
returns c =
    let b = c.args.bytes.now in
    let e : c.from_be_bytes.result ≡ number b = c.from_be_bytes.ensures ∙ rw c.copy_from_slice.ensures.after (number_padded b (length b) c.requires refl) in
    (e, rw e (number_lt b (bytes_of b (λ i. omega (arith, c.type_inv.bytes i)) 0)))
