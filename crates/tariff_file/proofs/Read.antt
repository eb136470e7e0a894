-- The laws of `read`: a file is accepted exactly when it is written, its fronts are cut short, more is left over, and its ranges are faulty exactly as the form checker says. Assumes nothing.
use Prim.Native.Nat.{ℕ, zero, suc, ◌^◌, ◌≤◌, ◌<◌}
use mathlib.Core.Path.{◌≡◌, refl, sym, ap, subst, subst₂, ◌∙◌}
use mathlib.Core.Logic.{◌↔◌, ◌⊎◌, inl, inr}
use mathlib.Core.List.{List, [], ◌∷◌, ◌++◌, map}
use native.Mathlib.Omega.{arith}
use native.Mathlib.Nat.{sub-zero}
use lib.IntN.{ℤ, pos, negsuc}
use lib.Signed.{mag}
use lib.ListN.{length, get_or, take, length-map}
use Rattle.rules.specs.Piece.{AllWellFormed}
use Rattle.rules.specs.Lists.{instants, key64, keys, tracks}
use Rattle.std.specs.declared.result.Result.TheVariants.{Ok, Err}
use Rattle.rules.specs.Answer.{Judgement, judge_lists}
use Rattle.rules.specs.Refusals.{IsBackward, IsOverlap}
use Rattle.rules.specs.declared.Refusal.{Refusal as CallRefusal}
use Rattle.rules.specs.declared.Refusal.TheVariants.{Backward, Overlap}
use Rattle.rules.proofs.Faults.{Names, backward, overlap, names_fault, Fault, Finds, sound, refused as found, fault_only, finds_lists, all_clear, all_formed, tells_both, tells_true, tells_le}
use Rattle.many_way_rules.specs.Sheet.{Tariff, flat, lend}
use Rattle.tariff_file.specs.Layout.{Bytes, half}
use Rattle.tariff_file.specs.Reader.{record_at}
use Rattle.tariff_file.specs.File.{Head, records, written, Reading, refused, ill_formed, accepted, records_of, formed, checked, read, AllRanges, AllLists, Sound}
use Rattle.tariff_file.specs.declared.Refusal.{Refusal}
use Rattle.tariff_file.specs.declared.Refusal.TheVariants.{TooLong, CutShort, LeftOver}
use Rattle.tariff_file.proofs.File.{records_long, records_written, records_front, records_more, records_accepted, records_formed}
use Rattle.tariff_file.proofs.Columns.{total_flat}

-- the lists are well formed
abbrev pub Ordered : List (Tariff ℤ) → Type 0
Ordered ls = AllWellFormed instants.points (tracks instants (lend ls))

abbrev judgement : List (Tariff ℤ) → Judgement
judgement ls = judge_lists (tracks instants (lend ls))

pub ordered_sound : (ls : List (Tariff ℤ)) → Ordered ls → judgement ls ≡ Ok tt
ordered_sound ls = let c = lend ls in all_clear (keys instants c.starts) (keys instants c.ends) instants.points 0 c.counts

-- an instant is a point
key_below : (z : ℤ) → mag z < half 8 → key64 z < 2 ^ 64
unfolding key64
key_below (pos n) h = omega arith
key_below (negsuc n) h = omega arith

pub ends_below : (l : Tariff ℤ) → AllRanges l → (d : ℤ) (i : ℕ) → i < length (map (λ x. x.end) l) → key64 (get_or (map (λ x. x.end) l) i d) < 2 ^ 64
ends_below [] h d i w = omega arith
ends_below (x ∷ l) h d zero w = key_below x.end h.0.1.0
ends_below (x ∷ l) h d (suc i) w = ends_below l h.1 d i (omega arith)

both_held : (l m : Tariff ℤ) → AllRanges l → AllRanges m → AllRanges (l ++ m)
both_held [] m g h = h
both_held (x ∷ l) m g h = (g.0, both_held l m g.1 h)

pub flat_held : (ls : List (Tariff ℤ)) → AllLists ls → AllRanges (flat ls)
flat_held [] h = tt
flat_held (l ∷ ls) h = both_held l (flat ls) h.0 (flat_held ls h.1)

sound_ordered : (ls : List (Tariff ℤ)) → AllLists ls → judgement ls ≡ Ok tt → Ordered ls
sound_ordered ls h e =
    let c = lend ls in
    let f = flat ls in
    all_formed (keys instants c.starts) (keys instants c.ends) (λ i. i) instants.points (length c.ends) (ends_below f (flat_held ls h) (instants.point 0)) 0 c.counts
    (omega (arith, total_flat ls, length-map f (λ x. x.end))) e

-- what is written is read
module _ (h : Head) (ls : List (Tariff ℤ)) (s : Sound h ls) where
  read_judged : read (written h ls) ≡ formed (judgement ls) h ls
  unfolding read
  read_judged = ap checked (records_written h ls s)

  pub read_written : Ordered ls → read (written h ls) ≡ accepted h ls
  read_written w = read_judged ∙ ap (λ j. formed j h ls) (ordered_sound ls w)

-- a file's own refusals come before those of its ranges
pub read_refused : (b : List ℕ) (r : Refusal) → (read b ≡ refused r) ↔ (records_of b ≡ refused r)
unfolding read
read_refused b r = (go (records_of b), ap checked)
  where
    judged : (j : Judgement) (h : Head) (ls : List (Tariff ℤ)) → formed j h ls ≡ refused r → accepted h ls ≡ refused r
    judged (Ok u) h ls e = e
    judged (Err a) h ls e = cc

    go : (x : Reading) → checked x ≡ refused r → x ≡ refused r
    go (refused q) e = e
    go (ill_formed a) e = e
    go (accepted h ls) e = judged (judgement ls) h ls e

-- what is past its own refusals was written, and then its ranges are judged
pub read_past : (b : List ℕ) → Bytes b → (x : Reading) → ((r : Refusal) → x ≡ refused r → ⊥) → read b ≡ x →
    (h : Head) × (ls : List (Tariff ℤ)) × (b ≡ written h ls) × Sound h ls × (formed (judgement ls) h ls ≡ x)
unfolding read
read_past b y x none e = go (records_of b) refl e
  where
    go : (r : Reading) → records_of b ≡ r → checked r ≡ x → (h : Head) × (ls : List (Tariff ℤ)) × (b ≡ written h ls) × Sound h ls × (formed (judgement ls) h ls ≡ x)
    go (refused r) q e = absurd (none r (sym e))
    go (ill_formed a) q e = absurd (records_formed b a q)
    go (accepted h ls) q e = let w = records_accepted b h ls y q in (h, ls, w.0, w.1, e)

-- whatever is accepted was written of what it gives
pub accepted_written : (b : List ℕ) (h : Head) (ls : List (Tariff ℤ)) → Bytes b → read b ≡ accepted h ls → (b ≡ written h ls) × Sound h ls × Ordered ls
accepted_written b h ls y e =
    let (g, ms, w, s, q) = read_past b y (accepted h ls) (λ r n. cc) e in
    go g ms (judgement ms) refl w s q
  where
    go : (g : Head) (ms : List (Tariff ℤ)) (j : Judgement) → judgement ms ≡ j → b ≡ written g ms → Sound g ms → formed j g ms ≡ accepted h ls → (b ≡ written h ls) × Sound h ls × Ordered ls
    go g ms (Ok u) p w s q =
        let eh : g ≡ h = cc in
        let el : ms ≡ ls = cc in
        (w ∙ (λ i. written (eh i) (el i)), subst₂ Sound eh el s, subst Ordered el (sound_ordered ms s.all_held p))
    go g ms (Err a) p w s q = cc

-- a file is accepted exactly when it is the file of some head and lists, and no two files say the same
pub accepted_exactly : (b : List ℕ) → Bytes b → ((h : Head) × (ls : List (Tariff ℤ)) × (read b ≡ accepted h ls)) ↔ ((h : Head) × (ls : List (Tariff ℤ)) × (b ≡ written h ls) × Sound h ls × Ordered ls)
accepted_exactly b y = (
  λ a. let w = accepted_written b a.0 a.1 y a.2 in (a.0, a.1, w.0, w.1, w.2),
  λ w. (w.0, w.1, ap read w.2 ∙ read_written w.0 w.1 w.3 w.4),
)

pub no_two_files : (b d : List ℕ) (h : Head) (ls : List (Tariff ℤ)) → Bytes b → Bytes d → read b ≡ accepted h ls → read d ≡ accepted h ls → b ≡ d
no_two_files b d h ls x y p q = (accepted_written b h ls x p).0 ∙ sym (accepted_written d h ls y q).0

-- a front of an accepted file is cut short at the record that it cuts, and more behind it is left over
module _ (b : List ℕ) (h : Head) (ls : List (Tariff ℤ)) (y : Bytes b) (e : read b ≡ accepted h ls) where
  pub accepted_front : (n : ℕ) → n < length b → read (take n b) ≡ refused (CutShort (record_at n (records (h, ls))))
  accepted_front n l =
      let w = accepted_written b h ls y e in
      ap (λ (x : List ℕ). read (take n x)) w.0 ∙ (read_refused (take n (written h ls)) _).1 (records_front h ls w.1 n (omega (arith, ap length w.0)))

  pub accepted_more : (x : ℕ) (more : List ℕ) → length (b ++ (x ∷ more)) ≤ 45126 → read (b ++ (x ∷ more)) ≡ refused (LeftOver (length b))
  accepted_more x more l =
      let w = accepted_written b h ls y e in
      (read_refused (b ++ (x ∷ more)) (LeftOver (length b))).1
      (subst (λ (c : List ℕ). length (c ++ (x ∷ more)) ≤ 45126 → records_of (c ++ (x ∷ more)) ≡ refused (LeftOver (length c))) (sym w.0) (records_more h ls w.1 x more) l)

pub too_long : (b : List ℕ) → 45126 < length b → read b ≡ refused TooLong
too_long b h = (read_refused b TooLong).1 (records_long b h)

-- 5 and 6: a names the first faulty range of the lists, by its flat index
module _ (ls : List (Tariff ℤ)) where
  abbrev pub FirstFaulty : CallRefusal → Type 0
  FirstFaulty a = Fault (IsBackward instants (lend ls)) (IsOverlap instants (lend ls)) 0 (length (lend ls).starts) (Err a)

  abbrev Found : Judgement → Type 0
  Found = Finds (IsBackward instants (lend ls)) (IsOverlap instants (lend ls)) 0 (length (lend ls).starts)

  finds : Found (judgement ls)
  finds =
      let c = lend ls in
      finds_lists (keys instants c.starts) (keys instants c.ends) (IsOverlap instants c) 0 c.counts (length c.starts) (omega (arith, total_flat ls, length-map (flat ls) (λ x. x.start)))
      (λ j h m. rw (sub-zero j) (tells_both (tells_true _) (tells_le _ _)))

  module _ (h : Head) (a : CallRefusal) where
    named : (j : Judgement) → Found j → formed j h ls ≡ ill_formed a → FirstFaulty a
    named (Ok u) (sound c) q = cc
    named (Err d) (found f) q = let e : d ≡ a = cc in subst FirstFaulty e f

    naming : (j : Judgement) → Found j → FirstFaulty a → formed j h ls ≡ ill_formed a
    naming (Ok u) (sound c) g = absurd (c g.place g.from g.below (names_fault g.names))
    naming (Err d) (found f) g = let same : Err d ≡ Err a = fault_only f g in let e : d ≡ a = cc in ap ill_formed e

pub ill_formed_exactly : (b : List ℕ) → Bytes b → (a : CallRefusal) → (read b ≡ ill_formed a) ↔ ((h : Head) × (ls : List (Tariff ℤ)) × (b ≡ written h ls) × Sound h ls × FirstFaulty ls a)
ill_formed_exactly b y a = (
  λ e. let (h, ls, w, s, q) = read_past b y (ill_formed a) (λ r n. cc) e in (h, ls, w, s, named ls h a (judgement ls) (finds ls) q),
  λ (h, ls, w, s, f). ap read w ∙ read_judged h ls s ∙ naming ls h a (judgement ls) (finds ls) f,
)

-- and so no other code of the library than 5 or 6
pub five_or_six : (b : List ℕ) → Bytes b → (a : CallRefusal) → read b ≡ ill_formed a → (i : ℕ) × ((a ≡ Backward i) ⊎ (a ≡ Overlap i))
five_or_six b y a e = let f = ((ill_formed_exactly b y a).0 e).4 in (f.place, go f.names)
  where
    go : {B O : ℕ → Type 0} {c : CallRefusal} {i : ℕ} → Names B O (Err c) i → (c ≡ Backward i) ⊎ (c ≡ Overlap i)
    go (backward b) = inl refl
    go (overlap n o) = inr refl
