-- `count` meets its contract. Assumes nothing.
use Rattle.std.proofs.Common.{◌≡◌, ◌≤◌}
use mathlib.Core.Path.{◌∙◌}
use native.Mathlib.Omega.{arith}
use lib.ListN.{length}
use Rattle.std.proofs.lemmas.Int.{ints}
use Rattle.slots.specs.Slots.{slots_of, active, values_of}
use Rattle.slots.proofs.Slots.{active_length, count_upto}
use Rattle.combine.proofs.Laws.{number}
use Rattle.combine.proofs.count.Goals as goal

pub returns : goal.returns
returns c current =
    let s = slots_of current c.args.present.now in
    let is : c.how_many.result ≡ length (values_of c.args.places s) = c.how_many.ensures ∙ number s c.args.places (omega arith) in
    let few : c.how_many.result ≤ c.args.places = omega (arith, is, count_upto (active c.args.places s), active_length c.args.places s) in
    record { is = omega (arith, ints, is, few); bound = omega (arith, ints, few) }
