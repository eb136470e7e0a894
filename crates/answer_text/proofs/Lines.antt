-- A field before a separator, a line, and a text tell what they were made of. Assumes nothing.
use Prim.Native.Nat.{ℕ, ◌≤◌, ◌<◌}
use mathlib.Core.Path.{◌≡◌, refl, sym, ap, ◌∙◌}
use mathlib.Core.List.{List, [], ◌∷◌, ◌++◌, map, append_assoc, head-eq_of_cons-eq, tail-eq_of_cons-eq}
use native.Mathlib.Omega.{arith}
use lib.ListN.{length, length-append}
use Rattle.answer_text.specs.Lines.{line, text}

-- no space, no line feed, nothing below them
abbrev pub Dark : List ℕ → Type 0
Dark [] = Unit {0}
Dark (b ∷ f) = (32 < b) × Dark f

-- one field at least, and only such fields
abbrev pub Line : List (List ℕ) → Type 0
Line [] = ⊥
Line (f ∷ []) = Dark f
Line (f ∷ g ∷ fs) = Dark f × Line (g ∷ fs)

abbrev pub Lines : List (List (List ℕ)) → Type 0
Lines [] = Unit {0}
Lines (l ∷ ls) = Line l × Lines ls

-- a field ends at the first separator
pub field_tells : (f g : List ℕ) (a b : ℕ) (x y : List ℕ) → Dark f → Dark g → a ≤ 32 → b ≤ 32 → f ++ (a ∷ x) ≡ g ++ (b ∷ y) → (f ≡ g) × (a ≡ b) × (x ≡ y)
field_tells [] [] a b x y p q i j e = (refl, head-eq_of_cons-eq e, tail-eq_of_cons-eq e)
field_tells [] (d ∷ g) a b x y p q i j e = absurd (omega (arith, head-eq_of_cons-eq e))
field_tells (c ∷ f) [] a b x y p q i j e = absurd (omega (arith, head-eq_of_cons-eq e))
field_tells (c ∷ f) (d ∷ g) a b x y p q i j e =
    let r = field_tells f g a b x y p.1 q.1 i j (tail-eq_of_cons-eq e) in
    (λ k. head-eq_of_cons-eq e k ∷ r.0 k, r.1, r.2)

-- a line and what comes after it: the first field, its separator, the rest
last_field : (f x : List ℕ) → line (f ∷ []) ++ x ≡ f ++ (10 ∷ x)
last_field f x = append_assoc f (10 ∷ []) x

next_field : (f g : List ℕ) (fs : List (List ℕ)) (x : List ℕ) → line (f ∷ g ∷ fs) ++ x ≡ f ++ (32 ∷ (line (g ∷ fs) ++ x))
next_field f g fs x = simp append_assoc

pub line_tells : (fs gs : List (List ℕ)) (x y : List ℕ) → Line fs → Line gs → line fs ++ x ≡ line gs ++ y → (fs ≡ gs) × (x ≡ y)
line_tells [] gs x y p q e = absurd p
line_tells (f ∷ []) [] x y p q e = absurd q
line_tells (f ∷ []) (g ∷ []) x y p q e =
    let r = field_tells f g 10 10 x y p q (omega arith) (omega arith) (sym (last_field f x) ∙ e ∙ last_field g y) in
    (ap (λ (h : List ℕ). h ∷ []) r.0, r.2)
line_tells (f ∷ []) (g ∷ h ∷ gs) x y p q e =
    absurd (omega (arith, (field_tells f g 10 32 x (line (h ∷ gs) ++ y) p q.0 (omega arith) (omega arith) (sym (last_field f x) ∙ e ∙ next_field g h gs y)).1))
line_tells (f ∷ h ∷ fs) [] x y p q e = absurd q
line_tells (f ∷ h ∷ fs) (g ∷ []) x y p q e =
    absurd (omega (arith, (field_tells f g 32 10 (line (h ∷ fs) ++ x) y p.0 q (omega arith) (omega arith) (sym (next_field f h fs x) ∙ e ∙ last_field g y)).1))
line_tells (f ∷ h ∷ fs) (g ∷ i ∷ gs) x y p q e =
    let r = field_tells f g 32 32 (line (h ∷ fs) ++ x) (line (i ∷ gs) ++ y) p.0 q.0 (omega arith) (omega arith) (sym (next_field f h fs x) ∙ e ∙ next_field g i gs y) in
    let s = line_tells (h ∷ fs) (i ∷ gs) x y p.1 q.1 r.2 in
    (λ k. r.0 k ∷ s.0 k, s.1)

line_some : (fs : List (List ℕ)) (x : List ℕ) → [] ≡ line fs ++ x → ⊥
line_some fs x e = omega (arith, simp length-append at (ap length e))

pub text_tells : (ls ms : List (List (List ℕ))) → Lines ls → Lines ms → text ls ≡ text ms → ls ≡ ms
text_tells [] [] p q e = refl
text_tells [] (m ∷ ms) p q e = absurd (line_some m (text ms) e)
text_tells (l ∷ ls) [] p q e = absurd (line_some l (text ls) (sym e))
text_tells (l ∷ ls) (m ∷ ms) p q e =
    let r = line_tells l m (text ls) (text ms) p.0 q.0 e in
    λ i. r.0 i ∷ text_tells ls ms p.1 q.1 r.1 i

-- lines made of rows, each of which its line tells
module _ {R : Type 0} (f : R → List (List ℕ)) (lined : (r : R) → Line (f r)) (tells : (r q : R) → f r ≡ f q → r ≡ q) where
  pub lines_of : (rs : List R) → Lines (map f rs)
  lines_of [] = tt
  lines_of (r ∷ rs) = (lined r, lines_of rs)

  pub map_tells : (rs qs : List R) → map f rs ≡ map f qs → rs ≡ qs
  map_tells [] [] e = refl
  map_tells [] (q ∷ qs) e = let z : ◌≡◌ {A = ℕ} 0 1 = cc in absurd (omega arith)
  map_tells (r ∷ rs) [] e = let z : ◌≡◌ {A = ℕ} 0 1 = cc in absurd (omega arith)
  map_tells (r ∷ rs) (q ∷ qs) e =
      λ i. tells r q (head-eq_of_cons-eq e) i ∷ map_tells rs qs (tail-eq_of_cons-eq e) i

  pub table_tells : (rs qs : List R) → text (map f rs) ≡ text (map f qs) → rs ≡ qs
  table_tells rs qs e = map_tells rs qs (text_tells (map f rs) (map f qs) (lines_of rs) (lines_of qs) e)
