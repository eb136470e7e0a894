-- An operation over lists that nothing is refused of: its answer has a row for each piece of its rule. Assumes nothing.
use Prim.Native.Nat.{ℕ, ◌+◌, ◌≤◌, ◌<◌}
use mathlib.Core.Path.{◌≡◌, refl, ap, ◌∙◌}
use Rattle.std.specs.declared.option.Option.{Option}
use Rattle.std.specs.declared.option.Option.TheVariants.{None, Some}
use mathlib.Core.List.{List, [], ◌∷◌, map}
use native.Mathlib.Omega.{arith}
use lib.IntN.{ℤ, pos}
use lib.ListN.{length, get_or, length-replicate}
use Rattle.std.specs.declared.result.Result.TheVariants.{Ok}
use Rattle.rules.specs.Piece.{Piece, Range, AllWellFormed}
use Rattle.rules.specs.Lists.{Lent, instants, keys, ranges, cut, lists, tracks, total}
use Rattle.rules.specs.Answer.{Outcome, judge, leaves, front}
use Rattle.rules.specs.Merged as merged_columns
use Rattle.rules.specs.Paired as paired_columns
use Rattle.rules.specs.Merged.{Merged}
use Rattle.rules.specs.Paired.{Paired}
use Rattle.rules.specs.TwoWay.{Match, side_value, presence, paired}
use Rattle.rules.specs.Outcomes.{pairing}
use Rattle.rules.specs.Refusals.{Formed}
use Rattle.rules.specs.declared.Pairing.{Pairing}
use Rattle.rules.specs.declared.Kind.TheVariants.{TwoWay}
use Rattle.rules.proofs.Refusals.{fits, lists_formed}
use Rattle.rules.proofs.Room.{paired_room}
use Rattle.rules.proofs.Operations.{front_has}
use Rattle.rules.proofs.Columns.{lists_size, length_ranges}
use Rattle.many_way_rules.specs.Operations.{kind_of, merged}
use Rattle.many_way_rules.specs.Outcomes.{merging}
use Rattle.many_way_rules.specs.declared.Operation.{Operation}
use Rattle.many_way_rules.proofs.Room.{merged_enough}
use Rattle.tariff_file.specs.File.{Head}
use Rattle.answer_text.specs.Answers as text
use Rattle.answer_text.specs.Answers.{Row, Pair, rows, pairs, row_at, pair_at, present, left_there, right_there}
use Rattle.printed.specs.Printed.{merge_room, pair_room, told, paired_answer, merged_answer}
use Rattle.printed.proofs.Firsts.{firsts_map}

-- a piece as a row
abbrev pub row_of : Range → Row
row_of x = record { start = instants.point x.start; end = instants.point x.end; value = x.value }

-- a side's value by its place
abbrev pub side_of : (ℕ → ℤ) → Option ℕ → Option ℤ
side_of v None = None
side_of v (Some i) = Some (v i)

abbrev pub pair_of : (ℕ → ℤ) → Piece Match → Pair
pair_of v x = record { start = instants.point x.start; end = instants.point x.end; left = side_of v x.value.0; right = side_of v x.value.1 }

-- the rows of columns that pieces are laid into
module _ (xs : List Range) (c : Merged ℤ) (s : length xs ≤ length c.start) (e : length xs ≤ length c.end) (v : length xs ≤ length c.value) where
  pub rows_laid : rows (merged_columns.lay instants 0 xs c) (length xs) ≡ map row_of xs
  rows_laid =
      let None : Range = record { start = 0; end = 0; value = pos 0 } in
      firsts_map row_of (row_at (merged_columns.lay instants 0 xs c)) xs None
      (λ i h j.
      record {
        start = (front_has (λ x. instants.point x.start) xs c.start s i None h).there (pos 0) j;
        end = (front_has (λ x. instants.point x.end) xs c.end e i None h).there (pos 0) j;
        value = (front_has (λ x. x.value) xs c.value v i None h).there (pos 0) j;
      })

-- a side from its value and its presence
left_is : (v : ℕ → ℤ) (m : Match) → present (left_there (presence m)) (side_value v m.0) ≡ side_of v m.0
left_is v (None, None) = refl
left_is v (Some i, None) = refl
left_is v (None, Some j) = refl
left_is v (Some i, Some j) = refl

right_is : (v : ℕ → ℤ) (m : Match) → present (right_there (presence m)) (side_value v m.1) ≡ side_of v m.1
right_is v (None, None) = refl
right_is v (Some i, None) = refl
right_is v (None, Some j) = refl
right_is v (Some i, Some j) = refl

module _ (v : ℕ → ℤ) (xs : List (Piece Match)) (c : Paired ℤ) (room : length xs ≤ paired_columns.room c) where
  abbrev nothing : Piece Match
  nothing = record { start = 0; end = 0; value = (None, None) }

  -- what a column has at a place
  has : {A : Type 0} (f : Piece Match → A) (old : List A) → length xs ≤ length old → (d : A) (i : ℕ) → i < length xs → get_or (front f xs old) i d ≡ f (get_or xs i nothing)
  has f old l d i h = (front_has f xs old l i nothing h).there d

  left_laid : (i : ℕ) → i < length xs → (pair_at (paired_columns.lay instants v 0 xs c) i).left ≡ side_of v (get_or xs i nothing).value.0
  left_laid i h =
      (λ k. present (left_there (has (λ x. presence x.value) c.presence (omega arith) 0 i h k)) (has (λ x. side_value v x.value.0) c.left (omega arith) (pos 0) i h k))
      ∙ left_is v (get_or xs i nothing).value

  right_laid : (i : ℕ) → i < length xs → (pair_at (paired_columns.lay instants v 0 xs c) i).right ≡ side_of v (get_or xs i nothing).value.1
  right_laid i h =
      (λ k. present (right_there (has (λ x. presence x.value) c.presence (omega arith) 0 i h k)) (has (λ x. side_value v x.value.1) c.right (omega arith) (pos 0) i h k))
      ∙ right_is v (get_or xs i nothing).value

  pub pairs_laid : pairs (paired_columns.lay instants v 0 xs c) (length xs) ≡ map (pair_of v) xs
  pairs_laid =
      firsts_map (pair_of v) (pair_at (paired_columns.lay instants v 0 xs c)) xs nothing
      (λ i h j.
      record {
        start = has (λ x. instants.point x.start) c.start (omega arith) (pos 0) i h j;
        end = has (λ x. instants.point x.end) c.end (omega arith) (pos 0) i h j;
        left = left_laid i h j;
        right = right_laid i h j;
      })

-- lists that are judged sound, with room for 4,095 pieces: all of them are written
module _ (h : Head) (l : Lent ℤ) where
  merge_room_is : merged_columns.room merge_room ≡ 4095
  merge_room_is = rw (length-replicate 4095 (pos 0))

  merge_few : (o : Operation) → Formed instants (kind_of o) l → length (merged o instants.points (lists instants l)) ≤ 4095
  merge_few o f = merged_enough o instants.points (lists instants l) (lists_formed f) (omega (arith, lists_size instants l, f.agree.adds_up, f.ranges_few))

  pub merge_done : (o : Operation) → judge instants (kind_of o) l ≡ Ok tt → Formed instants (kind_of o) l →
      let xs = merged o instants.points (lists instants l) in merging instants o l merge_room ≡ leaves (Ok (length xs)) (merged_columns.lay instants 0 xs merge_room)
  unfolding merging
  merge_done o j f =
      let xs = merged o instants.points (lists instants l) in
      rw j (fits (length xs) (merged_columns.room merge_room) merge_room (merged_columns.lay instants 0 xs merge_room) (omega (arith, merge_room_is, merge_few o f)))

  pub merged_answered : (o : Operation) → judge instants (kind_of o) l ≡ Ok tt → Formed instants (kind_of o) l →
      merged_answer h o l ≡ text.merged h.operation h.combiner (length l.counts) (map row_of (merged o instants.points (lists instants l)))
  unfolding merged_answer
  merged_answered o j f =
      let xs = merged o instants.points (lists instants l) in
      let few = merge_few o f in
      ap (λ (r : Outcome (Merged ℤ)). told r.answer (λ n. text.merged h.operation h.combiner (length l.counts) (rows r.columns n))) (merge_done o j f)
      ∙ ap (λ (rs : List Row). text.merged h.operation h.combiner (length l.counts) rs) (rows_laid xs merge_room (omega (arith, length-replicate 4095 (pos 0))) (omega (arith, length-replicate 4095 (pos 0))) (omega (arith, length-replicate 4095 (pos 0))))

  -- the same of two lists
  pair_room_is : paired_columns.room pair_room ≡ 4095
  pair_room_is = rw (length-replicate 4095 (pos 0), length-replicate {A = ℕ} 4095 0)

  abbrev pub place_value : ℕ → ℤ
  place_value i = get_or l.values i (pos 0)

  pair_few : (p : Pairing) → Formed instants TwoWay l → length (paired p instants.points (tracks instants l)) ≤ 4095
  pair_few p f = go l.counts (f.two refl) f.formed (omega (arith, f.agree.adds_up, f.ranges_few))
    where
      go : (ns : List ℕ) → length ns ≡ 2 → AllWellFormed instants.points (cut (keys instants l.starts) (keys instants l.ends) (λ i. i) 0 ns) → total ns ≤ 2048 →
          length (paired p instants.points (cut (keys instants l.starts) (keys instants l.ends) (λ i. i) 0 ns)) ≤ 4095
      go [] e w t = absurd (omega arith)
      go (a ∷ []) e w t = absurd (omega arith)
      go (a ∷ c ∷ []) e w t =
          let s = keys instants l.starts in
          let n = keys instants l.ends in
          omega (arith, paired_room p instants.points (ranges s n (λ i. i) 0 a) (ranges s n (λ i. i) (0 + a) c) w, length_ranges s n (λ i. i) 0 a, length_ranges s n (λ i. i) (0 + a) c)
      go (a ∷ c ∷ d ∷ ns) e w t = absurd (omega arith)

  pub pair_done : (p : Pairing) → judge instants TwoWay l ≡ Ok tt → Formed instants TwoWay l →
      let xs = paired p instants.points (tracks instants l) in pairing instants p l pair_room ≡ leaves (Ok (length xs)) (paired_columns.lay instants place_value 0 xs pair_room)
  unfolding pairing
  pair_done p j f =
      let xs = paired p instants.points (tracks instants l) in
      rw j (fits (length xs) (paired_columns.room pair_room) pair_room (paired_columns.lay instants place_value 0 xs pair_room) (omega (arith, pair_room_is, pair_few p f)))

  pub paired_answered : (p : Pairing) → judge instants TwoWay l ≡ Ok tt → Formed instants TwoWay l →
      paired_answer h p l ≡ text.paired h.operation h.combiner (length l.counts) (map (pair_of place_value) (paired p instants.points (tracks instants l)))
  unfolding paired_answer
  paired_answered p j f =
      let xs = paired p instants.points (tracks instants l) in
      ap (λ (r : Outcome (Paired ℤ)). told r.answer (λ n. text.paired h.operation h.combiner (length l.counts) (pairs r.columns n))) (pair_done p j f)
      ∙ ap (λ (ps : List Pair). text.paired h.operation h.combiner (length l.counts) ps) (pairs_laid place_value xs pair_room (omega (arith, pair_room_is, pair_few p f)))
