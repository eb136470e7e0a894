-- One more piece at the end keeps a list canonical, and gives the points of the piece its value. Assumes nothing.
use Prim.Native.Nat.{ℕ, pred, ◌+◌, ◌≤◌, ◌<◌}
use mathlib.Core.Path.{◌≡◌, refl, sym, ◌∙◌, ap}
use mathlib.Core.Logic.{◌≢◌, ◌⊎◌, inl, inr}
use mathlib.Core.Bool.{Bool, true, false, ◌&&◌, false≢true}
use Rattle.std.specs.declared.option.Option.{Option}
use Rattle.std.specs.declared.option.Option.TheVariants.{None, Some}
use mathlib.Core.List.{List, [], ◌∷◌}
use native.Mathlib.Omega.{arith}
use lib.Dec.{eqb}
use borrow.Author.Tests.{eqb-true, eq-eqb}
use Rattle.rules.specs.Piece.{Piece, at, Within, Apart, Differ}
use Rattle.rules.specs.Same.{Decides}
use Rattle.rules.specs.Runs.{attach, touch, push}
use Rattle.rules.specs.Proving.Below.{Below}
use Rattle.rules.proofs.Unique.{unique}
use Rattle.rules.proofs.At.{at_in, at_before, at_after, at_tail, at_late, within_le, within_mono, le_or_lt}

and_true : (b c : Bool) → (b && c) ≡ true → (b ≡ true) × (c ≡ true)
and_true true c e = (refl, e)
and_true false c e = absurd (false≢true e)

module _ {B : Type 0} (same : B → B → Bool) (law : Decides same) where
  touch_true : (x y : Piece B) → touch same x y ≡ true → (x.end + 1 ≡ y.start) × (x.value ≡ y.value)
  touch_true x y e =
      let h = and_true (eqb (x.end + 1) y.start) (same x.value y.value) e in
      (eqb-true _ _ h.0, law.equal x.value y.value h.1)

  touch_false : (x y : Piece B) → touch same x y ≡ false → x.end + 1 ≡ y.start → x.value ≢ y.value
  touch_false x y e h = law.differ x.value y.value (rw (eq-eqb (x.end + 1) y.start h) at e)

  push_within : (b c d : ℕ) (xs : List (Piece B)) (y : Piece B) → Within b c xs → c ≤ y.start → y.start ≤ y.end → y.end < d → Within b d (push same xs y)
  push_within b c d [] y w h l k = omega arith
  push_within b c d (x ∷ []) y w h l k = go (touch same x y)
    where
      go : (t : Bool) → Within b d (attach same t x y)
      go true = omega arith
      go false = omega arith
  push_within b c d (x ∷ z ∷ zs) y w h l k = (w.0, w.1, push_within (x.end + 1) c d (z ∷ zs) y w.2 h l k)

  push_apart : (e : ℕ) (v : B) (z : Piece B) (zs : List (Piece B)) (y : Piece B) → Apart e v (z ∷ zs) → Apart e v (push same (z ∷ zs) y)
  push_apart e v z [] y a = go (touch same z y)
    where
      go : (t : Bool) → Apart e v (attach same t z y)
      go true = a
      go false = a
  push_apart e v z (u ∷ us) y a = a

  push_differ : (xs : List (Piece B)) (y : Piece B) → Differ xs → Differ (push same xs y)
  push_differ [] y f = (tt, tt)
  push_differ (x ∷ []) y f = go (touch same x y) refl
    where
      go : (t : Bool) → touch same x y ≡ t → Differ (attach same t x y)
      go true e = (tt, tt)
      go false e = (touch_false x y e, (tt, tt))
  push_differ (x ∷ z ∷ zs) y f = (push_apart (x.end + 1) x.value z zs y f.0, push_differ (z ∷ zs) y f.1)

  -- before the new piece nothing changes
  push_before : (b c : ℕ) (xs : List (Piece B)) (y : Piece B) → Within b c xs → c ≤ y.start → y.start ≤ y.end → (p : ℕ) → p < y.start → at (push same xs y) p ≡ at xs p
  push_before b c [] y w h l p k = at_before y [] p k
  push_before b c (x ∷ []) y w h l p k = go (touch same x y) refl
    where
      go : (t : Bool) → touch same x y ≡ t → at (attach same t x y) p ≡ at (x ∷ []) p
      go true e = merged (le_or_lt x.start p)
        where
          merged : (x.start ≤ p) ⊎ (p < x.start) → at (attach same true x y) p ≡ at (x ∷ []) p
          merged (inl m) = at_in _ [] p m (omega arith) ∙ sym (at_in x [] p m (omega (arith, (touch_true x y e).0)))
          merged (inr m) = at_before _ [] p m ∙ sym (at_before x [] p m)
      go false e = at_tail x (y ∷ []) [] p (at_before y [] p k)
  push_before b c (x ∷ z ∷ zs) y w h l p k = at_tail x (push same (z ∷ zs) y) (z ∷ zs) p (push_before (x.end + 1) c (z ∷ zs) y w.2 h l p k)

  -- inside it its value stands
  push_in : (b c : ℕ) (xs : List (Piece B)) (y : Piece B) → Within b c xs → c ≤ y.start → (p : ℕ) → y.start ≤ p → p ≤ y.end → at (push same xs y) p ≡ Some y.value
  push_in b c [] y w h p k l = at_in y [] p k l
  push_in b c (x ∷ []) y w h p k l = go (touch same x y) refl
    where
      go : (t : Bool) → touch same x y ≡ t → at (attach same t x y) p ≡ Some y.value
      go true e = at_in _ [] p (omega arith) l ∙ ap {B = Option B} Some (touch_true x y e).1
      go false e = at_after x (y ∷ []) p (omega arith) ∙ at_in y [] p k l
  push_in b c (x ∷ z ∷ zs) y w h p k l = at_after x (push same (z ∷ zs) y) p (omega (arith, within_le (x.end + 1) c (z ∷ zs) w.2)) ∙ push_in (x.end + 1) c (z ∷ zs) y w.2 h p k l

  pub push_below : (c d : ℕ) (v : B) (xs : List (Piece B)) (f : ℕ → Option B) → Below c xs f → c < d → ((p : ℕ) → c ≤ p → p < d → f p ≡ Some v) → Below d (push same xs (record { start = c; end = pred d; value = v })) f
  push_below c d v xs f b h k =
      record {
        canonical = (push_within 0 c d xs _ b.canonical.0 (omega arith) (omega arith) (omega arith), push_differ xs _ b.canonical.1);
        agrees = λ p l. go p l (le_or_lt c p);
      }
    where
      go : (p : ℕ) → p < d → (c ≤ p) ⊎ (p < c) → at (push same xs (record { start = c; end = pred d; value = v })) p ≡ f p
      go p l (inl m) = push_in 0 c xs _ b.canonical.0 (omega arith) p m (omega arith) ∙ sym (k p m l)
      go p l (inr m) = push_before 0 c xs _ b.canonical.0 (omega arith) (omega arith) p m ∙ b.agrees p m

module _ {B : Type 0} where
  pub skip_below : (c d : ℕ) (xs : List (Piece B)) (f : ℕ → Option B) → Below c xs f → c ≤ d → ((p : ℕ) → c ≤ p → p < d → f p ≡ None) → Below d xs f
  skip_below c d xs f b h k = record { canonical = (within_mono 0 c d xs b.canonical.0 h, b.canonical.1); agrees = λ p l. go p l (le_or_lt c p) }
    where
      go : (p : ℕ) → p < d → (c ≤ p) ⊎ (p < c) → at xs p ≡ f p
      go p l (inl m) = at_late 0 c xs b.canonical.0 p m ∙ sym (k p m l)
      go p l (inr m) = b.agrees p m

  -- two lists that say what f says below c are one
  pub below_only : (c : ℕ) (xs ys : List (Piece B)) (f : ℕ → Option B) → Below c xs f → Below c ys f → xs ≡ ys
  below_only c xs ys f b e = unique c c xs ys b.canonical e.canonical (λ p. go p (le_or_lt c p))
    where
      go : (p : ℕ) → (c ≤ p) ⊎ (p < c) → at xs p ≡ at ys p
      go p (inl m) = at_late 0 c xs b.canonical.0 p m ∙ sym (at_late 0 c ys e.canonical.0 p m)
      go p (inr m) = b.agrees p m ∙ sym (e.agrees p m)

module _ {B : Type 0} (same : B → B → Bool) (law : Decides same) where
  -- a gap, and a piece after it
  pub push_past : (c s d : ℕ) (v : B) (xs : List (Piece B)) (f : ℕ → Option B) → Below c xs f → c ≤ s → s < d → ((p : ℕ) → c ≤ p → p < s → f p ≡ None) → ((p : ℕ) → s ≤ p → p < d → f p ≡ Some v) → Below d (push same xs (record { start = s; end = pred d; value = v })) f
  push_past c s d v xs f b h k gap on = push_below same law s d v xs f (skip_below c s xs f b h gap) k on
