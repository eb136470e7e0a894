-- A file stops exactly at a record that is awaited, where reading that record stops. Assumes nothing.
use Prim.Native.Nat.{ℕ, zero, suc, ◌+◌}
use mathlib.Core.Path.{◌≡◌, refl, sym, ap, subst, ◌∙◌}
use mathlib.Core.Logic.{⊎_elim}
use mathlib.Core.Bool.{true}
use Rattle.std.specs.declared.option.Option.TheVariants.{None}
use mathlib.Core.List.{List, [], ◌∷◌, ◌++◌, map}
use native.Mathlib.Omega.{arith}
use lib.Dec.{leb}
use lib.IntN.{ℤ}
use lib.ListN.{length, replicate, length-replicate}
use borrow.Author.Tests.{leb-true, le-leb}
use Rattle.rules.specs.Lists.{total}
use Rattle.many_way_rules.specs.Sheet.{Tariff, flat}
use Rattle.tariff_file.specs.Layout.{Bytes, Layout, Held, record_bytes}
use Rattle.tariff_file.specs.Reader.{stop, got, Reader, Fault, follow, ◌then◌, one}
use Rattle.tariff_file.specs.File.{head_layout, list_layout, range_layout, Head, File, head_held, list_held, range_held, held_range, range_records, list_records, head_fault, list_fault, read_range, read_ranges, read_list, read_lists, read_file, AllLists}
use Rattle.tariff_file.specs.Given.{Whole, AtList, AtRange, Awaiting, the_head, a_list, a_range}
use Rattle.tariff_file.specs.declared.Refusal.{Refusal}
use Rattle.tariff_file.specs.declared.Refusal.TheVariants.{TooManyRanges}
use Rattle.tariff_file.proofs.Sequence.{bytes_after}
use Rattle.tariff_file.proofs.Record.{one_format, single}
use Rattle.tariff_file.proofs.Stops.{whole_both, whole_first, whole_next, last_stops, then_past, then_stops, known_after, many_past, many_stops}
use Rattle.tariff_file.proofs.File.{range_format, Range, range_single, flat_singles, ranges_held, held_ranges, unless_none, none_unless, list_format, ListOk, lists_few, few_lists, sound_head, head_sound}

abbrev next : ℕ → Tariff ℤ → ℕ
next before l = before + length l

known_total : (before : ℕ) (ls : List (Tariff ℤ)) → known_after next before ls ≡ before + total (map length ls)
known_total before [] = omega arith
known_total before (l ∷ ls) = omega (arith, known_total (before + length l) ls)

-- n empty lists
none_total : (n : ℕ) → total (map length (replicate {A = Tariff ℤ} n [])) ≡ 0
none_total zero = refl
none_total (suc n) = omega (arith, none_total n)

none_held : (n : ℕ) → AllLists (replicate n [])
none_held zero = tt
none_held (suc n) = (tt, none_held n)

whole_bytes : {rs : List (List ℕ)} {from : ℕ} {b : List ℕ} {at : ℕ} {c : List ℕ} → Whole rs from b at c → Bytes b → Bytes c
whole_bytes {rs} {c = c} w y = bytes_after (flat rs) c (subst Bytes w.same y)

abbrev after_head : Held head_layout → Reader File
after_head v = read_lists v.1.1.0 0 then (λ ls. got (record { operation = v.0; combiner = v.1.0 }, ls))

module _ (b : List ℕ) where
  -- the ranges before a list that is awaited
  abbrev pub before : {at : ℕ} {c : List ℕ} → AtList b at c → ℕ
  before g = total (map length g.done)

  -- what is asked of a record that is awaited
  abbrev pub fault : {l : Layout} {at : ℕ} {c : List ℕ} → Awaiting b l at c → Held l → Fault
  fault the_head = head_fault
  fault (a_list g) = list_fault (before g)
  fault (a_range g) = λ v. None

  -- WHERE AN AWAITED RECORD STOPS, the file does
  list_comes : {at : ℕ} {c : List ℕ} (g : AtList b at c) (r : Refusal) → read_list (before g) at c ≡ stop r → read_file 0 b ≡ stop r
  unfolding read_file read_lists
  list_comes {at} {c} g r e =
      let h = g.head in
      let n = length g.said in
      let H = single head_layout head_fault (head_held h n) in
      let rest = flat (map list_records g.done) in
      let z : known_after next 0 g.done ≡ before g = omega (arith, known_total 0 g.done) in
      then_past (one_format head_layout head_fault (omega arith)) after_head (head_held h n) (sound_head h g.said g.sound) (whole_first H rest g.whole)
      ∙ ap (λ x. follow x (λ ls. got (h, ls)))
      (many_past read_list next list_records ListOk list_format n 0 g.done (few_lists 0 g.done (omega (arith, g.few_ranges)) g.all_held) g.fewer (whole_next H rest g.whole) r
      (ap (λ (m : ℕ). read_list m at c) z ∙ e))

  range_comes : {at : ℕ} {c : List ℕ} → AtRange b at c → (r : Refusal) → read_range at c ≡ stop r → read_file 0 b ≡ stop r
  unfolding read_list read_ranges
  range_comes {at} {c} g r e =
      let n = g.said in
      let m = before g.lists in
      let rs = range_records g.done in
      let L = single list_layout (list_fault m) (list_held n) in
      let few : leb (m + n) 2048 ≡ true = le-leb (m + n) 2048 g.few_ranges in
      list_comes g.lists r
      (then_past (one_format list_layout (list_fault m) (omega arith)) (λ v. read_ranges v.0) (list_held n) ((omega (arith, g.few_ranges), tt), none_unless (leb (m + n) 2048) TooManyRanges None few refl) (whole_first L rs g.whole)
      ∙ many_past {S = Unit {0}} (λ s. read_range) (λ s x. s) range_single (λ s. Range) (λ s. range_format) n tt g.done (held_ranges g.done g.all_held) g.fewer
      (subst (λ (ss : List (List ℕ)). Whole ss (g.place + length (flat L)) (flat rs ++ c) at c) (sym (flat_singles (λ x. record_bytes range_layout (range_held x)) g.done)) (whole_next L rs g.whole)) r e)

  pub comes : {l : Layout} {at : ℕ} {c : List ℕ} (w : Awaiting b l at c) (r : Refusal) → one l (fault w) at c ≡ stop r → read_file 0 b ≡ stop r
  unfolding read_file read_list read_range
  comes the_head r e = ap (λ x. follow x after_head) e
  comes (a_list g) r e = list_comes g r (ap (λ x. follow x (λ v. read_ranges v.0)) e)
  comes (a_range g) r e = range_comes g r (ap (λ x. follow x (λ v. got (held_range v))) e)

  -- AND THE FILE STOPS only where an awaited record does
  pub record Halt (r : Refusal) : Type 0 where
    pub layout : Layout
    pub at : ℕ
    pub rest : List ℕ
    pub awaiting : Awaiting b layout at rest
    pub stops : one layout (fault awaiting) at rest ≡ stop r

  halt : {l : Layout} {at : ℕ} {c : List ℕ} (w : Awaiting b l at c) {r : Refusal} → one l (fault w) at c ≡ stop r → Halt r
  halt {l} {at} {c} w e = record { layout = l; at = at; rest = c; awaiting = w; stops = e }

  list_halts : {at : ℕ} {c : List ℕ} (g : AtList b at c) (r : Refusal) → Bytes c → read_list (before g) at c ≡ stop r → Halt r
  unfolding read_list read_ranges read_range
  list_halts {at} {c} g r y e =
      ⊎_elim (halt (a_list g))
      (λ t.
      let n = t.value.0 in
      let k = before g + n in
      let m = many_stops {S = Unit {0}} (λ s. read_range) (λ s x. s) range_single (λ s. Range) (λ s. range_format) n tt t.at t.rest r (whole_bytes t.whole y) t.stops in
      halt
      (a_range
      (record {
        place = at;
        rest = c;
        lists = g;
        said = n;
        few_ranges = leb-true k 2048 (unless_none (leb k 2048) TooManyRanges None t.ok.1).0;
        done = m.done;
        fewer = m.fewer;
        all_held = ranges_held m.done m.ok;
        whole = whole_both t.whole (subst (λ (rs : List (List ℕ)). Whole rs t.at t.rest m.at m.rest) (flat_singles (λ x. record_bytes range_layout (range_held x)) m.done) m.whole);
      }))
      (last_stops held_range (one range_layout (λ v. None) m.at m.rest) r m.stops))
      (then_stops (one_format list_layout (list_fault (before g)) (omega arith)) (λ v. read_ranges v.0) at c r y e)

  pub halts : (r : Refusal) → Bytes b → read_file 0 b ≡ stop r → Halt r
  unfolding read_file read_lists
  halts r y e =
      ⊎_elim (halt the_head)
      (λ t.
      let v = t.value in
      let h : Head = record { operation = v.0; combiner = v.1.0 } in
      let n = v.1.1.0 in
      let m = many_stops read_list next list_records ListOk list_format n 0 t.at t.rest r (whole_bytes t.whole y) (last_stops (λ ls. (h, ls)) (read_lists n 0 t.at t.rest) r t.stops) in
      let few = lists_few 0 m.done (omega arith) m.ok in
      let said : List (Tariff ℤ) = replicate n [] in
      let long : n ≡ length said = sym (length-replicate n []) in
      let z : total (map length m.done) ≡ known_after next 0 m.done = omega (arith, known_total 0 m.done) in
      list_halts
      (record {
        head = h;
        said = said;
        sound = head_sound h said (subst (λ k. head_fault (head_held h k) ≡ None) long t.ok.1) (omega (arith, none_total n)) (none_held n);
        done = m.done;
        fewer = omega (arith, m.fewer, long);
        few_ranges = omega (arith, few.0);
        all_held = few.1;
        whole = subst (λ k. Whole (record_bytes head_layout (head_held h k) ∷ flat (map list_records m.done)) 0 b m.at m.rest) long (whole_both t.whole m.whole);
      })
      r (whole_bytes m.whole (whole_bytes t.whole y))
      (ap (λ (k : ℕ). read_list k m.at m.rest) z ∙ m.stops))
      (then_stops (one_format head_layout head_fault (omega arith)) after_head 0 b r y e)
