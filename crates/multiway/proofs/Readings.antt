-- What is read of what a join or selection wrote: after a call that was done, the price at any point is what its rule says of the lists there. Assumes nothing.
use Prim.Native.Nat.{ℕ, ◌<◌, ◌^◌}
use mathlib.Core.Path.{◌≡◌, ap, ◌∙◌}
use Rattle.std.specs.declared.option.Option.{Option}
use Rattle.std.specs.declared.result.Result.TheVariants.{Ok}
use mathlib.Core.List.{List}
use lib.IntN.{ℤ, pos}
use lib.ListN.{length, get_or}
use lib.Signed.{mag}
use Rattle.integer.specs.Faithful.{Faithful}
use Rattle.integer.proofs.Laws.{faithful_seats, faithful_instants}
use Rattle.rules.specs.Piece.{column}
use Rattle.rules.specs.Lists.{Width, Lent, seats, instants, keys, lists}
use Rattle.rules.specs.Answer.{leaves}
use Rattle.rules.specs.Merged.{Merged}
use Rattle.many_way_rules.specs.Operations.{rule_of}
use Rattle.many_way_rules.specs.declared.Operation.{Operation}
use Rattle.many_way_rules.proofs.Condition3.{merged_right}
use Rattle.price.specs.Reading.{price_at, pence, presence}
use Rattle.price.specs.Batch.{Priced, prices_at}
use Rattle.price.proofs.Reading.{price_of_laid}
use Rattle.price.proofs.Batch.{row_reads}
use Rattle.multiway.proofs.Calls.{Call, pieces, counted, laid, formed, ascending}

module _ {P : Type 0} {Fits : P → Type 0} {w : Width P} (f : Faithful w Fits) {o : Operation} {l : Lent P} {c d : Merged P} {n : ℕ} (k : Call f o l c d n) where
  -- the price at a key of the width, and at a point
  key_price : (p : ℕ) → p < w.points → price_at w d n p ≡ rule_of o (column (lists w l) p)
  key_price p h = rw (counted f k, laid f k) (price_of_laid f c (pieces f k) (ascending f k) p) ∙ (merged_right w.points o (lists w l) (formed f k)).points p h

  pub price_is_the_rule : (a : P) → Fits a → price_at w d n (w.key a) ≡ rule_of o (column (lists w l) (w.key a))
  price_is_the_rule a g = key_price (w.key a) (f.below a g)

  -- the rows of prices at some points
  pub rows_are_the_rule : (ps : List P) (q : Priced) {m : ℕ} {r : Priced} → leaves (Ok m) r ≡ prices_at w d n ps q → (i : ℕ) → i < length ps → Fits (get_or ps i (w.point 0)) → let x = rule_of o (column (lists w l) (keys w ps i)) in (get_or r.value i (pos 0) ≡ pence x) × (get_or r.presence i 0 ≡ presence x)
  rows_are_the_rule ps q e i h g =
      let u = row_reads w d n ps q e i h in
      let z = price_is_the_rule (get_or ps i (w.point 0)) g in
      (u.0 ∙ ap pence z, u.1 ∙ ap presence z)

-- in the words of the contracts: a join that was done, and a reading of its columns
pub seat_price : {o : Operation} {l : Lent ℕ} {c d : Merged ℕ} {n : ℕ} → Call faithful_seats o l c d n → (a : ℕ) → a < 2 ^ 32 → (r : Option ℤ) → r ≡ price_at seats d n (seats.key a) → r ≡ rule_of o (column (lists seats l) (seats.key a))
seat_price k a g r e = e ∙ price_is_the_rule faithful_seats k a g

pub instant_price : {o : Operation} {l : Lent ℤ} {c d : Merged ℤ} {n : ℕ} → Call faithful_instants o l c d n → (a : ℤ) → mag a < 2 ^ 63 → (r : Option ℤ) → r ≡ price_at instants d n (instants.key a) → r ≡ rule_of o (column (lists instants l) (instants.key a))
instant_price k a g r e = e ∙ price_is_the_rule faithful_instants k a g
