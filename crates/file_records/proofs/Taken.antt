-- What columns take, one after the other, they take together. Assumes nothing.
use Prim.Native.Nat.{ℕ, ◌+◌, ◌<◌}
use mathlib.Core.Path.{◌≡◌, refl, sym, ap, ◌∙◌}
use mathlib.Core.List.{List, [], ◌∷◌, ◌++◌, map, map-append, append_assoc, append-nil}
use native.Mathlib.Omega.{arith}
use native.Mathlib.Nat.{add-zero}
use native.Mathlib.Numerals.{add-one}
use lib.IntN.{ℤ}
use lib.ListN.{length, take, set, length-append}
use lib.Seq.{take-suc-set}
use Rattle.std.proofs.lemmas.List.{length-set}
use Rattle.rules.specs.Merged.{Merged, lengths, room}
use Rattle.many_way_rules.specs.Sheet.{Typed, Tariff}
use Rattle.file_records.specs.Columns.{Same, Laid, Took}
use Rattle.file_records.specs.declared.Columns.{Columns}

-- columns that are lent by the same throughout
pub same_none : (c : Columns) → Same c c
same_none c = record { starts = refl; ends = refl; values = refl; long = refl }

pub same_more : {b c d : Columns} → Same b c → Same c d → Same b d
same_more s t = record { starts = t.starts ∙ s.starts; ends = t.ends ∙ s.ends; values = t.values ∙ s.values; long = t.long ∙ s.long }

pub set_long : (b : Merged ℤ) (n : ℕ) (x y z : ℤ) → lengths (record { start = set b.start n x; end = set b.end n y; value = set b.value n z }) ≡ lengths b
set_long b n x y z i = length-set b.start n x i ∷ length-set b.end n y i ∷ length-set b.value n z i ∷ []

module _ {A R : Type 0} (f : R → A) (n : ℕ) where
  pub laid_none : (b : List A) → Laid f n [] b b
  laid_none b = rw (add-zero n) (sym (append-nil (take n b)))

  pub laid_one : (x : R) (b : List A) (a : A) → n < length b → a ≡ f x → Laid f n (x ∷ []) b (set b n a)
  laid_one x b a h e = rw (add-one n, e) (take-suc-set b n (f x) h)

  pub laid_more : (xs ys : List R) (i : ℕ) (b c d : List A) → length xs ≡ i → Laid f n xs b c → Laid f (n + i) ys c d → Laid f n (xs ++ ys) b d
  laid_more xs ys i b c d z g h =
      let e : n + length (xs ++ ys) ≡ n + i + length ys = omega (arith, length-append xs ys) in
      let m : n + i ≡ n + length xs = omega arith in
      ap (λ (k : ℕ). take k d) e ∙ h ∙ ap (λ (k : ℕ). take k c ++ map f ys) m ∙ ap (λ l. l ++ map f ys) g ∙ append_assoc (take n b) (map f xs) (map f ys) ∙ ap (λ l. take n b ++ l) (sym (map-append f xs ys))

pub took_none : (n : ℕ) (b : Merged ℤ) → Took n b b []
took_none n b = record { starts = laid_none (λ (x : Typed ℤ ℤ). x.start) n b.start; ends = laid_none (λ (x : Typed ℤ ℤ). x.end) n b.end; values = laid_none (λ (x : Typed ℤ ℤ). x.value) n b.value }

pub took_one : (n : ℕ) (r : Typed ℤ ℤ) (b : Merged ℤ) → n < room b → (x y z : ℤ) → x ≡ r.start → y ≡ r.end → z ≡ r.value →
    Took n b (record { start = set b.start n x; end = set b.end n y; value = set b.value n z }) (r ∷ [])
took_one n r b h x y z p q o = record { starts = laid_one (λ x. x.start) n r b.start x (omega arith) p; ends = laid_one (λ x. x.end) n r b.end y (omega arith) q; values = laid_one (λ x. x.value) n r b.value z (omega arith) o }

pub took_more : (n : ℕ) (l m : Tariff ℤ) (i : ℕ) (b c d : Merged ℤ) → length l ≡ i → Took n b c l → Took (n + i) c d m → Took n b d (l ++ m)
took_more n l m i b c d z g h =
    record {
      starts = laid_more (λ x. x.start) n l m i b.start c.start d.start z g.starts h.starts;
      ends = laid_more (λ x. x.end) n l m i b.end c.end d.end z g.ends h.ends;
      values = laid_more (λ x. x.value) n l m i b.value c.value d.value z g.values h.values;
    }
