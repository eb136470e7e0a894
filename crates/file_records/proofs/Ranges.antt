-- Ranges: how reading one ends, and what the columns take of one and of many. Assumes nothing.
use Prim.Native.Nat.{ℕ, ◌+◌, ◌≤◌, ◌<◌}
use mathlib.Core.Path.{◌≡◌, refl, ap, ◌∙◌}
use mathlib.Core.List.{[], ◌∷◌, ◌++◌}
use native.Mathlib.Omega.{arith}
use lib.IntN.{ℤ}
use lib.ListN.{length, take, drop, set}
use lib.Seq.{drop-drop}
use Rattle.std.specs.declared.option.Option.TheVariants.{None}
use Rattle.std.specs.declared.result.Result.TheVariants.{Ok, Err}
use Rattle.rules.specs.Merged.{Merged, room}
use Rattle.many_way_rules.specs.Sheet.{Typed, Tariff}
use Rattle.tariff_file.specs.Layout.{number, integer, field_value, values}
use Rattle.tariff_file.specs.Reader.{stop, got, Reader, follow}
use Rattle.tariff_file.specs.File.{range_layout, held_range, read_range, read_ranges}
use Rattle.tariff_file.specs.declared.Refusal.{Refusal}
use Rattle.file_records.specs.Ends.{reads, Got, Marked}
use Rattle.file_records.specs.declared.rest.Rest.{Rest}
use Rattle.file_records.specs.Columns.{Took}
use Rattle.file_records.proofs.Taken.{took_none, took_one, took_more}
use Rattle.file_records.proofs.Turns.{Going, going_first, going_more, going_stops, going_last}

module _ (from : Rest) where
  -- the three fields
  abbrev pub range_of : Typed ℤ ℤ
  range_of =
      let b = from.bytes.now in
      record { start = integer 8 (number (take 8 (drop 2 b))); end = integer 8 (number (take 8 (drop 10 b))); value = integer 4 (number (take 4 (drop 18 b))) }

  pub range_stops : (x : Refusal) → Marked from 0x52 22 (Err x) → reads read_range from ≡ stop x
  unfolding read_range
  range_stops x look = ap (λ r. follow r (λ v. got (held_range v))) (look range_layout (λ v. None) refl refl refl)

  module _ (rest : Rest) (look : Marked from 0x52 22 (Ok rest)) where
    range_read : reads read_range from ≡ got range_of rest.at rest.bytes.now
    unfolding read_range values field_value
    range_read =
        let b = from.bytes.now in
        let d : drop 8 (drop 2 b) ≡ drop 10 b = drop-drop 8 2 b in
        let e : drop 8 (drop 8 (drop 2 b)) ≡ drop 18 b = ap (drop 8) d ∙ drop-drop 8 10 b in
        ap (λ r. follow r (λ v. got (held_range v))) (look range_layout (λ v. None) refl refl refl)
        ∙ (λ i. got (record { start = integer 8 (number (take 8 (drop 2 b))); end = integer 8 (number (take 8 (d i))); value = integer 4 (number (take 4 (e i))) }) rest.at rest.bytes.now)

    -- the range goes to place n
    pub range_put : (b : Merged ℤ) (n : ℕ) → n < room b → (x y z : ℤ) → x ≡ range_of.start → y ≡ range_of.end → z ≡ range_of.value →
        Got read_range from (λ v. Took n b (record { start = set b.start n x; end = set b.end n y; value = set b.value n z }) (v ∷ [])) rest
    range_put b n h x y z p q o = record { value = range_of; read = range_read; put = took_one n range_of b h x y z p q o }

-- ranges know nothing of those before
abbrev each : Unit {0} → Reader (Typed ℤ ℤ)
each u = read_range

abbrev on : Unit {0} → Typed ℤ ℤ → Unit {0}
on u x = u

-- n ranges from `from` on, into the columns b from place m on: i are read, and the columns are c
module _ (n : ℕ) (from : Rest) (m : ℕ) (b : Merged ℤ) where
  pub record Reading (c : Merged ℤ) (rest : Rest) (i : ℕ) : Type 0 where
    pub done : Tariff ℤ
    pub going : Going each on n tt from i done tt rest
    pub took : Took m b c done

  pub reading_first : Reading b from 0
  reading_first = record { done = []; going = going_first each on n tt from; took = took_none m b }

  module _ (c : Merged ℤ) (rest : Rest) (i : ℕ) (g : Reading c rest i) where
    pub reading_more : i < n → (d : Merged ℤ) (past : Rest) → Got read_range rest (λ x. Took (m + i) c d (x ∷ [])) past → Reading d past (i + 1)
    reading_more more d past h =
        record {
          done = g.done ++ (h.value ∷ []);
          going = going_more each on n tt from g.going more h.value past h.read;
          took = took_more m g.done (h.value ∷ []) i b c d g.going.long g.took h.put;
        }

    pub reading_stops : i < n → (x : Refusal) → reads read_range rest ≡ stop x → reads (read_ranges n) from ≡ stop x
    unfolding read_ranges
    reading_stops more x h = going_stops each on n tt from g.going more x h

    pub reading_last : n ≤ i → Got (read_ranges n) from (λ l. (length l ≡ n) × Took m b c l) rest
    unfolding read_ranges
    reading_last h = record { value = g.done; read = going_last each on n tt from g.going h; put = (omega (arith, g.going.long, g.going.few), g.took) }
