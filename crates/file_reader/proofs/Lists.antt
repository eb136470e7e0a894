-- A list's record and its ranges, and lists in turn, into the columns. Assumes nothing.
use Prim.Native.Nat.{ℕ, ◌+◌, ◌≤◌, ◌<◌}
use mathlib.Core.Path.{◌≡◌, refl, sym, ap, subst, ◌∙◌}
use mathlib.Core.List.{List, [], ◌∷◌, ◌++◌, append_assoc, append-nil}
use native.Mathlib.Omega.{arith}
use lib.Dec.{leb}
use lib.IntN.{ℤ}
use lib.ListN.{length, take, drop, set, length-append}
use borrow.Author.Tests.{le-leb, lt-leb}
use Rattle.std.specs.declared.option.Option.TheVariants.{None, Some}
use Rattle.std.specs.declared.result.Result.TheVariants.{Ok, Err}
use Rattle.rules.specs.Merged.{Merged}
use Rattle.many_way_rules.specs.Sheet.{Tariff, flat}
use Rattle.tariff_file.specs.Layout.{number, field_value, values, Held}
use Rattle.tariff_file.specs.Reader.{stop, got, Fault, judged, follow}
use Rattle.tariff_file.specs.File.{list_layout, list_fault, unless, read_ranges, read_list, read_lists}
use Rattle.tariff_file.specs.declared.Refusal.{Refusal}
use Rattle.tariff_file.specs.declared.Refusal.TheVariants.{TooManyRanges}
use Rattle.file_records.specs.Ends.{reads, Got, Marked}
use Rattle.file_records.specs.Columns.{Took}
use Rattle.file_records.specs.declared.rest.Rest.{Rest}
use Rattle.file_records.proofs.Taken.{laid_none, laid_one, laid_more, took_none, took_more}
use Rattle.file_records.proofs.Turns.{Going, going_first, going_more, going_stops, going_last}
use Rattle.file_reader.specs.Fills.{Counted, Gathered}

module _ (from : Rest) (prior : ℕ) where
  pub list_stops : {x : Refusal} → Marked from 0x4C 4 (Err x) → reads (read_list prior) from ≡ stop x
  unfolding read_list
  list_stops look = ap (λ r. follow r (λ v. read_ranges v.0)) (look list_layout (list_fault prior) refl refl refl)

  module _ (ranges : Rest) (look : Marked from 0x4C 4 (Ok ranges)) where
    module _ (n : ℕ) (count : n ≡ number (take 2 (drop 2 from.bytes.now))) where
      list_is : (f : Fault) → unless (leb (prior + n) 2048) TooManyRanges None ≡ f →
          reads (read_list prior) from ≡ follow {A = Held list_layout} (judged f from.at (got (n, tt) ranges.at ranges.bytes.now)) (λ v. read_ranges v.0)
      unfolding read_list values field_value
      list_is f q =
          ap (λ r. follow r (λ v. read_ranges v.0)) (look list_layout (list_fault prior) refl refl refl)
          ∙ (λ i. follow {A = Held list_layout} (judged (list_fault prior (sym count i, tt)) from.at (got (sym count i, tt) ranges.at ranges.bytes.now)) (λ v. read_ranges v.0))
          ∙ (λ i. follow {A = Held list_layout} (judged (q i) from.at (got (n, tt) ranges.at ranges.bytes.now)) (λ v. read_ranges v.0))

      pub list_over : 2048 < prior + n → reads (read_list prior) from ≡ stop (TooManyRanges from.at)
      list_over h = list_is (Some TooManyRanges) (λ i. unless (lt-leb (prior + n) 2048 h i) TooManyRanges None)

      module _ (few : prior + n ≤ 2048) where
        pub list_fine : reads (read_list prior) from ≡ reads (read_ranges n) ranges
        list_fine = list_is None (λ i. unless (le-leb (prior + n) 2048 few i) TooManyRanges None)

        pub list_got : (b c : Merged ℤ) (rest : Rest) → Got (read_ranges n) ranges (λ l. (length l ≡ n) × Took prior b c l) rest → Got (read_list prior) from (Counted prior b c n) rest
        list_got b c rest h = record { value = h.value; read = list_fine ∙ h.read; put = record { long = h.put.0; few = few; took = h.put.1 } }

flat_snoc : {A : Type 0} (ls : List (List A)) (l : List A) → flat (ls ++ (l ∷ [])) ≡ flat ls ++ l
flat_snoc [] l = append-nil l
flat_snoc (k ∷ ls) l = ap (λ m. k ++ m) (flat_snoc ls l) ∙ sym (append_assoc k (flat ls) l)

abbrev so_far : ℕ → Tariff ℤ → ℕ
so_far prior l = prior + length l

-- n lists from `from` on, into the columns b and the counts d: i are read, with `prior` ranges, and the columns are c and e
module _ (n : ℕ) (from : Rest) (b : Merged ℤ) (d : List ℕ) where
  pub record Filling (c : Merged ℤ) (e : List ℕ) (rest : Rest) (prior i : ℕ) : Type 0 where
    pub done : List (Tariff ℤ)
    pub going : Going read_list so_far n 0 from i done prior rest
    pub gathered : Gathered i b c d e prior done

  pub filling_first : Filling b d from 0 0
  filling_first =
      record {
        done = [];
        going = going_first read_list so_far n 0 from;
        gathered = record { many = refl; long = refl; few = omega arith; took = took_none 0 b; counts = laid_none {R = Tariff ℤ} length 0 d };
      }

  module _ (c : Merged ℤ) (e : List ℕ) (rest : Rest) (prior i : ℕ) (g : Filling c e rest prior i) where
    pub filling_stops : i < n → {x : Refusal} → reads (read_list prior) rest ≡ stop x → reads (read_lists n 0) from ≡ stop x
    unfolding read_lists
    filling_stops more {x} h = going_stops read_list so_far n 0 from g.going more x h

    pub filling_more : i < n → n ≤ length e → (c' : Merged ℤ) (past : Rest) (m : ℕ) → Got (read_list prior) rest (Counted prior c c' m) past →
        Filling c' (set e i m) past (prior + m) (i + 1)
    filling_more more room c' past m f =
        let z : 0 + prior ≡ prior = omega arith in
        let w : 0 + i ≡ i = omega arith in
        let s = flat_snoc g.done f.value in
        record {
          done = g.done ++ (f.value ∷ []);
          going = subst (λ (k : ℕ). Going read_list so_far n 0 from (i + 1) (g.done ++ (f.value ∷ [])) (prior + k) past) f.put.long (going_more read_list so_far n 0 from g.going more f.value past f.read);
          gathered = record {
            many = length-append g.done (f.value ∷ []) ∙ ap (λ (k : ℕ). k + 1) g.gathered.many;
            long = ap length s ∙ length-append (flat g.done) f.value ∙ omega (arith, g.gathered.long, f.put.long);
            few = f.put.few;
            took = rw s (took_more 0 (flat g.done) f.value prior b c c' g.gathered.long g.gathered.took (rw z f.put.took));
            counts =
                laid_more length 0 g.done (f.value ∷ []) i d e (set e i m) g.gathered.many g.gathered.counts
                (rw w (laid_one length i f.value e m (omega arith) (sym f.put.long)));
          };
        }

    pub filling_last : n ≤ i → Got (read_lists n 0) from (Gathered n b c d e prior) rest
    unfolding read_lists
    filling_last h =
        let z : i ≡ n = omega (arith, g.going.few) in
        record { value = g.done; read = going_last read_list so_far n 0 from g.going h; put = rw z at g.gathered }
