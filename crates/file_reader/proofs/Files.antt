-- A whole file, from its head and its lists. Assumes nothing.
use Prim.Native.Nat.{ℕ, ◌+◌, ◌≤◌, ◌<◌}
use mathlib.Core.Path.{◌≡◌, refl, sym, ap, ◌∙◌}
use mathlib.Core.List.{List, [], ◌∷◌, ◌++◌}
use native.Mathlib.Omega.{arith}
use lib.IntN.{ℤ}
use lib.ListN.{length, take}
use Rattle.std.proofs.lemmas.List.{nil_from_length, take-append-le}
use Rattle.rules.specs.Merged.{Merged}
use Rattle.many_way_rules.specs.Sheet.{Tariff, flat}
use Rattle.tariff_file.specs.Layout.{Held}
use Rattle.tariff_file.specs.Reader.{Parsed, stop, got, Reader, follow, ◌then◌, one}
use Rattle.tariff_file.specs.File as files
use Rattle.tariff_file.specs.File.{head_layout, head_fault, read_lists, read_file, refused, accepted, finish, records_of}
use Rattle.tariff_file.specs.declared.Refusal.{Refusal}
use Rattle.tariff_file.specs.declared.Refusal.TheVariants.{LeftOver}
use Rattle.tariff_file.proofs.File.{records_short}
use Rattle.file_records.specs.Ends.{reads, Got}
use Rattle.file_records.specs.declared.rest.Rest.{Rest}
use Rattle.file_head.specs.Heads.{Headed}
use Rattle.file_head.specs.declared.Head.{Head}
use Rattle.file_reader.specs.Fills.{Gathered}
use Rattle.file_reader.specs.Holds.{Lends}

-- what follows a head
abbrev rest : Held head_layout → Reader files.File
rest v = read_lists v.1.1.0 0 then (λ ls. got (record { operation = v.0; combiner = v.1.0 }, ls))

module _ (s : List ℕ) (short : length s ≤ 45126) where
  pub file_unopened : {x : Refusal} → one head_layout head_fault 0 s ≡ stop x → records_of s ≡ refused x
  unfolding read_file
  file_unopened q = records_short s short ∙ ap (λ r. finish (follow r rest)) q

  module _ (h : Head) (lists : Rest) (headed : Headed s h lists) where
    abbrev head : files.Head
    head = record { operation = h.operation; combiner = h.combiner }

    file_is : (n : ℕ) → n ≡ h.lists → (r : Parsed (List (Tariff ℤ))) → reads (read_lists n 0) lists ≡ r → records_of s ≡ finish (follow r (λ ls. got (head, ls)))
    unfolding read_file
    file_is n z r q =
        records_short s short
        ∙ ap (λ r. finish (follow r rest)) headed.read
        ∙ ap (λ (k : ℕ). finish (follow (reads (read_lists k 0) lists) (λ ls. got (head, ls)))) (sym z)
        ∙ ap (λ r. finish (follow r (λ ls. got (head, ls)))) q

    pub file_stops : (n : ℕ) → n ≡ h.lists → {x : Refusal} → reads (read_lists n 0) lists ≡ stop x → records_of s ≡ refused x
    file_stops n z {x} f = file_is n z (stop x) f

    module _ (n : ℕ) (z : n ≡ h.lists) (b c : Merged ℤ) (d e : List ℕ) (past : Rest) (m : ℕ) (found : Got (read_lists n 0) lists (Gathered n b c d e m) past) where
      read : (l : List ℕ) → past.bytes.now ≡ l → records_of s ≡ finish (got (head, found.value) past.at l)
      read l q = file_is n z (got found.value past.at past.bytes.now) found.read ∙ ap (λ (x : List ℕ). finish (got (head, found.value) past.at x)) q

      pub file_over : 0 < length past.bytes.now → records_of s ≡ refused (LeftOver past.at)
      file_over = go past.bytes.now refl
        where
          go : (l : List ℕ) → past.bytes.now ≡ l → 0 < length l → records_of s ≡ refused (LeftOver past.at)
          go [] q l = absurd (omega arith)
          go (x ∷ r) q l = read (x ∷ r) q

      -- the columns are given back, and the counts stand at the front of theirs
      pub file_held : length past.bytes.now ≡ 0 → (more : List ℕ) → length e ≡ n → {x y z : List ℤ} → (x ≡ c.start) × (y ≡ c.end) × (z ≡ c.value) →
          Lends s (record { head = h; ranges = m }) (record { starts = x; ends = y; values = z; counts = e ++ more })
      file_held l more q back =
          let p = found.put in
          let w : m ≡ 0 + length (flat found.value) = omega (arith, p.long) in
          let v : h.lists ≡ 0 + length found.value = omega (arith, p.many) in
          record {
            lists = found.value;
            read = read [] (nil_from_length past.bytes.now l);
            known = headed.known;
            few_lists = headed.few;
            few_ranges = p.few;
            all_lists = p.many ∙ z;
            all_ranges = p.long;
            lent = λ i. record {
              starts = (ap (take m) back.0 ∙ ap (λ (j : ℕ). take j c.start) w ∙ p.took.starts) i;
              ends = (ap (take m) back.1 ∙ ap (λ (j : ℕ). take j c.end) w ∙ p.took.ends) i;
              values = (ap (take m) back.2 ∙ ap (λ (j : ℕ). take j c.value) w ∙ p.took.values) i;
              counts = (take-append-le h.lists e more (omega arith) ∙ ap (λ (j : ℕ). take j e) v ∙ p.counts) i;
            };
          }
