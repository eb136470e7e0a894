-- What is written is read, what is read was written, a front is cut short, and more is left over. Assumes nothing.
use Prim.Native.Nat.{ℕ, zero, suc, ◌+◌, ◌*◌, ◌≤◌, ◌<◌}
use mathlib.Core.Path.{◌≡◌, refl, sym, ap, subst, subst₂, ◌∙◌}
use mathlib.Core.Bool.{Bool, true, false, cond, ◌&&◌}
use Rattle.std.specs.declared.option.Option.{Option}
use Rattle.std.specs.declared.option.Option.TheVariants.{None, Some}
use mathlib.Core.List.{List, [], ◌∷◌, ◌++◌, map, append-nil}
use native.Mathlib.Omega.{arith}
use lib.Dec.{ltb, leb}
use lib.IntN.{ℤ}
use lib.ListN.{length, take, length-append, length-take}
use Rattle.std.proofs.lemmas.Option.{slice_get_within}
use borrow.Author.Tests.{lt-ltb, le-ltb, leb-true, le-leb, eqb-true}
use Rattle.rules.specs.Lists.{total}
use Rattle.rules.specs.declared.Refusal.{Refusal as CallRefusal}
use Rattle.many_way_rules.specs.Sheet.{Typed, Tariff, flat}
use Rattle.tariff_file.specs.Layout.{Bytes, AllHold, Layout, Held, sizes, record_bytes}
use Rattle.tariff_file.specs.Reader.{Parsed, stop, got, Reader, Fault, one, record_at, ◌then◌}
use Rattle.tariff_file.specs.File.{head_layout, list_layout, range_layout, operations, task_of, lists_right, combiner_right, Head, File, head_held, list_held, range_held, held_range, range_records, list_records, records, written, unless, asked_of, head_fault, list_fault, read_range, read_ranges, read_list, read_lists, read_file, refused, ill_formed, accepted, finish, records_of, AllRanges, AllLists, Sound}
use Rattle.tariff_file.specs.declared.Refusal.{Refusal}
use Rattle.tariff_file.specs.declared.Refusal.TheVariants.{TooLong, CutShort, LeftOver, TooManyLists, NotTwoLists, UnknownCombiner, TooManyRanges}
use Rattle.tariff_file.specs.declared.Task.{Task}
use Rattle.tariff_file.specs.declared.Task.TheVariants.{Pair, Merge, Choose}
use Rattle.tariff_file.proofs.Sequence.{Reads, Format, only_weaken, reformat, reads_then, only_then, reads_last, only_last, many_format, AllOk, flat_append, bytes_both}
use Rattle.tariff_file.proofs.Record.{values_long, record_is_bytes, one_format, Fine, single}

-- a range
abbrev pub range_single : Typed ℤ ℤ → List (List ℕ)
range_single x = record_bytes range_layout (range_held x) ∷ []

abbrev pub Range : Typed ℤ ℤ → Type 0
Range x = AllHold range_layout.fields (range_held x)

pub range_format : Format read_range range_single Range
unfolding read_range
range_format =
    let asked : Held range_layout → Fault = λ v. None in
    let law = one_format range_layout asked (omega arith) in
    record {
      reads = λ x h. reads_last (one range_layout asked) held_range (range_held x) (range_single x) (law.reads (range_held x) (h, refl));
      only = only_last (one range_layout asked) held_range (λ v rs. (rs ≡ single range_layout asked v) × Fine range_layout asked v) (λ x rs. (rs ≡ range_single x) × Range x) law.only (λ v rs q. (q.0, q.1.0));
    }

-- the ranges of a list
pub flat_singles : {A : Type 0} (f : A → List ℕ) (l : List A) → flat (map (λ x. f x ∷ []) l) ≡ map f l
flat_singles f [] = refl
flat_singles f (x ∷ l) = ap (λ (r : List (List ℕ)). f x ∷ r) (flat_singles f l)

abbrev pub ranges_ok : Tariff ℤ → Type 0
ranges_ok l = AllOk {S = Unit {0}} (λ s. read_range) (λ s x. s) range_single (λ s. Range) tt l

pub ranges_held : (l : Tariff ℤ) → ranges_ok l → AllRanges l
ranges_held [] h = tt
ranges_held (x ∷ l) h = (h.0, ranges_held l h.1)

pub held_ranges : (l : Tariff ℤ) → AllRanges l → ranges_ok l
held_ranges [] h = tt
held_ranges (x ∷ l) h = (h.0, held_ranges l h.1)

pub ranges_format : (n : ℕ) → Format (read_ranges n) range_records (λ l. (length l ≡ n) × AllRanges l)
unfolding read_ranges
ranges_format n =
    reformat range_records (λ l. (length l ≡ n) × AllRanges l) (many_format {S = Unit {0}} (λ s. read_range) (λ s x. s) range_single (λ s. Range) (λ s. range_format) n tt)
    (flat_singles (λ x. record_bytes range_layout (range_held x)))
    (λ l h. (h.0, ranges_held l h.1))
    (λ l h. (h.0, held_ranges l h.1))

-- a test that has to hold for no fault
pub unless_none : (t : Bool) (r : ℕ → Refusal) (next : Fault) → unless t r next ≡ None → (t ≡ true) × (next ≡ None)
unless_none true r next e = (refl, e)
unless_none false r next e = cc

pub none_unless : (t : Bool) (r : ℕ → Refusal) (next : Fault) → t ≡ true → next ≡ None → unless t r next ≡ None
none_unless t r next e f = (λ i. unless (e i) r (f i))

-- a list after so many ranges
abbrev pub ListOk : ℕ → Tariff ℤ → Type 0
ListOk before l = (before + length l ≤ 2048) × AllRanges l

pub list_format : (before : ℕ) → Format (read_list before) list_records (ListOk before)
unfolding read_list
list_format before =
    let here = one list_layout (list_fault before) in
    let rest : Held list_layout → Reader (Tariff ℤ) = λ v. read_ranges v.0 in
    let law = one_format list_layout (list_fault before) (omega arith) in
    let T : Tariff ℤ → List (List ℕ) → Type 0 = λ l rs. (rs ≡ list_records l) × ListOk before l in
    record {
      reads = λ l h.
          reads_then here rest (list_held (length l)) l (single list_layout (list_fault before) (list_held (length l))) (range_records l)
          (law.reads (list_held (length l)) ((omega arith, tt), none_unless (leb (before + length l) 2048) TooManyRanges None (le-leb (before + length l) 2048 h.0) refl))
          ((ranges_format (length l)).reads l (refl, h.1));
      only =
          only_then here rest (λ v rs. (rs ≡ single list_layout (list_fault before) v) × Fine list_layout (list_fault before) v) T law.only
          (λ v rs q. only_weaken (ranges_format v.0).only
          (λ l ss u.
          let few = leb-true (before + v.0) 2048 (unless_none (leb (before + v.0) 2048) TooManyRanges None q.1.1).0 in
          ((λ i. q.0 i ++ u.0 i) ∙ (λ i. record_bytes list_layout (list_held (sym u.1.0 i)) ∷ range_records l), (omega (arith, u.1.0, few), u.1.1))));
    }

-- the lists
abbrev pub lists_ok : ℕ → List (Tariff ℤ) → Type 0
lists_ok before ls = AllOk read_list (λ before l. before + length l) list_records ListOk before ls

pub lists_few : (before : ℕ) (ls : List (Tariff ℤ)) → before ≤ 2048 → lists_ok before ls → (before + total (map length ls) ≤ 2048) × AllLists ls
lists_few before [] b h = (omega arith, tt)
lists_few before (l ∷ ls) b h = let r = lists_few (before + length l) ls h.0.0 h.1 in (omega arith, (h.0.1, r.1))

pub few_lists : (before : ℕ) (ls : List (Tariff ℤ)) → before + total (map length ls) ≤ 2048 → AllLists ls → lists_ok before ls
few_lists before [] b h = tt
few_lists before (l ∷ ls) b h = ((omega arith, h.0), few_lists (before + length l) ls (omega arith) h.1)

abbrev pub ListsOk : ℕ → List (Tariff ℤ) → Type 0
ListsOk n ls = (length ls ≡ n) × (total (map length ls) ≤ 2048) × AllLists ls

pub lists_format : (n : ℕ) → Format (read_lists n 0) (λ ls. flat (map list_records ls)) (ListsOk n)
unfolding read_lists
lists_format n =
    reformat (λ ls. flat (map list_records ls)) (ListsOk n) (many_format read_list (λ before l. before + length l) list_records ListOk list_format n 0)
    (λ ls. refl)
    (λ ls h. let r = lists_few 0 ls (omega arith) h.1 in (h.0, omega arith, r.1))
    (λ ls h. (h.0, few_lists 0 ls (omega arith) h.2))

-- the head
operation_below : (o : ℕ) (k : Task) → task_of o ≡ Some k → o < 256
operation_below zero k e = omega arith
operation_below (suc o) k e = omega (arith, slice_get_within operations o k e)

combiner_below : (k : Task) (c : ℕ) → combiner_right k c ≡ true → c < 256
combiner_below (Pair p) c e = omega (arith, eqb-true c 0 e)
combiner_below (Merge a) c e = go (ltb 0 c) (leb c 5) refl e
  where
    go : (s t : Bool) → leb c 5 ≡ t → (s && t) ≡ true → c < 256
    go true true q e = omega (arith, leb-true c 5 q)
    go true false q e = cc
    go false t q e = cc
combiner_below (Choose p a) c e = omega (arith, eqb-true c 0 e)

module _ (h : Head) (ls : List (Tariff ℤ)) where
  pub sound_head : Sound h ls → Fine head_layout head_fault (head_held h (length ls))
  sound_head s =
      let k = s.task in
      let c = h.combiner in
      let n = length ls in (
        (operation_below h.operation k s.operation_known, (combiner_below k c s.right_combiner, (omega (arith, s.few_lists), tt))),
        ap (λ o. asked_of o c n) s.operation_known ∙ (λ i. unless (le-leb n 16 s.few_lists i) TooManyLists (unless (s.right_lists i) NotTwoLists (unless (s.right_combiner i) UnknownCombiner None))),
      )

  pub head_sound : head_fault (head_held h (length ls)) ≡ None → total (map length ls) ≤ 2048 → AllLists ls → Sound h ls
  head_sound e few held = go (task_of h.operation) refl e
    where
      go : (o : Option Task) → task_of h.operation ≡ o → asked_of o h.combiner (length ls) ≡ None → Sound h ls
      go None q e = cc
      go (Some k) q e =
          let x = unless_none (leb (length ls) 16) TooManyLists (unless (lists_right k (length ls)) NotTwoLists (unless (combiner_right k h.combiner) UnknownCombiner None)) e in
          let y = unless_none (lists_right k (length ls)) NotTwoLists (unless (combiner_right k h.combiner) UnknownCombiner None) x.1 in
          let z = unless_none (combiner_right k h.combiner) UnknownCombiner None y.1 in
          record { task = k; operation_known = q; few_lists = leb-true (length ls) 16 x.0; right_lists = y.0; right_combiner = z.0; few_ranges = few; all_held = held }

abbrev pub FileSound : File → Type 0
FileSound f = Sound f.0 f.1

pub file_format : Format read_file records FileSound
unfolding read_file
file_format =
    let here = one head_layout head_fault in
    let rest : Held head_layout → Reader File = λ v. read_lists v.1.1.0 0 then (λ ls. got (record { operation = v.0; combiner = v.1.0 }, ls)) in
    let law = one_format head_layout head_fault (omega arith) in
    record {
      reads = λ f s.
          let h = f.0 in
          let ls = f.1 in
          let n = length ls in
          let later = flat (map list_records ls) in
          reads_then here rest (head_held h n) f (single head_layout head_fault (head_held h n)) later
          (law.reads (head_held h n) (sound_head h ls s))
          (reads_last (read_lists n 0) (λ ms. (h, ms)) ls later ((lists_format n).reads ls (refl, s.few_ranges, s.all_held)));
      only =
          only_then here rest (λ v rs. (rs ≡ single head_layout head_fault v) × Fine head_layout head_fault v) (λ f rs. (rs ≡ records f) × FileSound f) law.only
          (λ v rs q.
          let h : Head = record { operation = v.0; combiner = v.1.0 } in
          let n = v.1.1.0 in
          only_last (read_lists n 0) (λ ls. (h, ls)) (λ ls ss. (ss ≡ flat (map list_records ls)) × ListsOk n ls) (λ f ss. (rs ++ ss ≡ records f) × FileSound f) (lists_format n).only
          (λ ls ss u.
          let e = sym u.1.0 in (
            (λ i. q.0 i ++ u.0 i) ∙ (λ i. record_bytes head_layout (head_held h (e i)) ∷ flat (map list_records ls)),
            head_sound h ls (subst (λ m. head_fault (head_held h m) ≡ None) e q.1.1) u.1.1 u.1.2,
          )));
    }

-- how long a file is
record_long : (l : Layout) (v : Held l) → length (record_bytes l v) ≡ 2 + sizes l.fields
unfolding record_bytes
record_long l v = omega (arith, values_long l.fields v)

ranges_long : (l : Tariff ℤ) → length (flat (range_records l)) ≡ 22 * length l
ranges_long [] = refl
ranges_long (x ∷ l) =
    let r = record_bytes range_layout (range_held x) in
    omega (arith, length-append r (flat (range_records l)), record_long range_layout (range_held x), ranges_long l)

lists_long : (ls : List (Tariff ℤ)) → length (flat (flat (map list_records ls))) ≡ 4 * length ls + 22 * total (map length ls)
lists_long [] = refl
lists_long (l ∷ ls) =
    let r = record_bytes list_layout (list_held (length l)) in
    let rest = flat (map list_records ls) in
    omega (arith, ap length (flat_append (list_records l) rest), length-append (flat (list_records l)) (flat rest), length-append r (flat (range_records l)), record_long list_layout (list_held (length l)), ranges_long l, lists_long ls)

pub written_long : (h : Head) (ls : List (Tariff ℤ)) → length (written h ls) ≡ 6 + 4 * length ls + 22 * total (map length ls)
written_long h ls =
    let r = record_bytes head_layout (head_held h (length ls)) in
    omega (arith, length-append r (flat (flat (map list_records ls))), record_long head_layout (head_held h (length ls)), lists_long ls)

-- what is written is bytes
ranges_are_bytes : (l : Tariff ℤ) (more : List (List ℕ)) → AllRanges l → Bytes (flat more) → Bytes (flat (range_records l ++ more))
ranges_are_bytes [] more h y = y
ranges_are_bytes (x ∷ l) more h y =
    bytes_both (record_bytes range_layout (range_held x)) (flat (range_records l ++ more)) (record_is_bytes range_layout (omega arith) (omega arith) (omega arith) (range_held x) h.0) (ranges_are_bytes l more h.1 y)

lists_are_bytes : (ls : List (Tariff ℤ)) → total (map length ls) ≤ 2048 → AllLists ls → Bytes (flat (flat (map list_records ls)))
lists_are_bytes [] f h = tt
lists_are_bytes (l ∷ ls) f h =
    bytes_both (record_bytes list_layout (list_held (length l))) (flat (range_records l ++ flat (map list_records ls))) (record_is_bytes list_layout (omega arith) (omega arith) (omega arith) (list_held (length l)) (omega arith, tt))
    (ranges_are_bytes l (flat (map list_records ls)) h.0 (lists_are_bytes ls (omega arith) h.1))

pub written_bytes : (h : Head) (ls : List (Tariff ℤ)) → Sound h ls → Bytes (written h ls)
written_bytes h ls s =
    bytes_both (record_bytes head_layout (head_held h (length ls))) (flat (flat (map list_records ls)))
    (record_is_bytes head_layout (omega arith) (omega arith) (omega arith) (head_held h (length ls)) (sound_head h ls s).0)
    (lists_are_bytes ls s.few_ranges s.all_held)

-- where a file is not too long
pub records_short : (b : List ℕ) → length b ≤ 45126 → records_of b ≡ finish (read_file 0 b)
unfolding records_of
records_short b h = λ i. cond (le-ltb 45126 (length b) h i) (refused TooLong) (finish (read_file 0 b))

pub records_long : (b : List ℕ) → 45126 < length b → records_of b ≡ refused TooLong
unfolding records_of
records_long b h = λ i. cond (lt-ltb 45126 (length b) h i) (refused TooLong) (finish (read_file 0 b))

module _ (h : Head) (ls : List (Tariff ℤ)) (s : Sound h ls) where
  reads_file : Reads read_file (h, ls) (records (h, ls))
  reads_file = file_format.reads (h, ls) s

  pub sound_long : length (written h ls) ≤ 45126
  sound_long = omega (arith, written_long h ls, s.few_lists, s.few_ranges)

  -- what is written is read
  pub records_written : records_of (written h ls) ≡ accepted h ls
  records_written =
      records_short (written h ls) sound_long
      ∙ (λ i. finish (read_file 0 (sym (append-nil (written h ls)) i)))
      ∙ ap finish (reads_file.whole 0 [])

  -- a proper front is cut short at the record that it cuts
  pub records_front : (n : ℕ) → n < length (written h ls) → records_of (take n (written h ls)) ≡ refused (CutShort (record_at n (records (h, ls))))
  records_front n l =
      let z : 0 + record_at n (records (h, ls)) ≡ record_at n (records (h, ls)) = omega arith in
      records_short (take n (written h ls)) (omega (arith, length-take n (written h ls), sound_long))
      ∙ ap finish (reads_file.front 0 n l)
      ∙ ap (λ (k : ℕ). refused (CutShort k)) z

  -- bytes after it are left over
  pub records_more : (x : ℕ) (more : List ℕ) → length (written h ls ++ (x ∷ more)) ≤ 45126 → records_of (written h ls ++ (x ∷ more)) ≡ refused (LeftOver (length (written h ls)))
  records_more x more l =
      let z : 0 + length (written h ls) ≡ length (written h ls) = omega arith in
      records_short (written h ls ++ (x ∷ more)) l
      ∙ ap finish (reads_file.whole 0 (x ∷ more))
      ∙ ap (λ (k : ℕ). refused (LeftOver k)) z

-- whatever is accepted is sound, and written of what it gives
pub records_accepted : (b : List ℕ) (h : Head) (ls : List (Tariff ℤ)) → Bytes b → records_of b ≡ accepted h ls → (b ≡ written h ls) × Sound h ls
unfolding records_of
records_accepted b h ls y e = long (ltb 45126 (length b)) e
  where
    go : (r : Parsed File) → read_file 0 b ≡ r → finish r ≡ accepted h ls → (b ≡ written h ls) × Sound h ls
    go (stop r) q e = cc
    go (got (g, ms) at []) q e =
        let eh : g ≡ h = cc in
        let el : ms ≡ ls = cc in
        let f = file_format.only 0 b (g, ms) at [] y q in
        (f.whole ∙ append-nil (flat f.records) ∙ ap flat f.fits.0 ∙ (λ i. written (eh i) (el i)), subst₂ Sound eh el f.fits.1)
    go (got (g, ms) at (x ∷ more)) q e = cc

    long : (t : Bool) → cond t (refused TooLong) (finish (read_file 0 b)) ≡ accepted h ls → (b ≡ written h ls) × Sound h ls
    long true e = cc
    long false e = go (read_file 0 b) refl e

-- the records alone tell nothing of the ranges' form
pub records_formed : (b : List ℕ) (a : CallRefusal) → records_of b ≡ ill_formed a → ⊥
unfolding records_of
records_formed b a e = long (ltb 45126 (length b)) e
  where
    go : (r : Parsed File) → finish r ≡ ill_formed a → ⊥
    go (stop r) e = cc
    go (got (h, ls) at []) e = cc
    go (got (h, ls) at (x ∷ b)) e = cc

    long : (t : Bool) → cond t (refused TooLong) (finish (read_file 0 b)) ≡ ill_formed a → ⊥
    long true e = cc
    long false e = go (read_file 0 b) e
