-- What `at` says inside, before and after a piece, and outside a list. Assumes nothing.
use Prim.Native.Nat.{ℕ, ◌+◌, ◌≤◌, ◌<◌}
use mathlib.Core.Path.{◌≡◌, refl, ◌∙◌}
use mathlib.Core.Bool.{Bool, true, false, ◌&&◌}
use Rattle.std.specs.declared.option.Option.TheVariants.{None, Some}
use mathlib.Core.List.{List, [], ◌∷◌}
use native.Mathlib.Omega.{arith}
use lib.Dec.{leb}
use mathlib.Core.Logic.{◌⊎◌, inl, inr}
use borrow.Author.Tests.{le-leb, lt-leb, leb-true, leb-false}
use Rattle.rules.specs.Piece.{Piece, at, Within}

and_false : (b : Bool) → (b && false) ≡ false
and_false true = refl
and_false false = refl

module _ {A : Type 0} (x : Piece A) (xs : List (Piece A)) where
  pub at_in : (p : ℕ) → x.start ≤ p → p ≤ x.end → at (x ∷ xs) p ≡ Some x.value
  at_in p h l = rw (le-leb x.start p h, le-leb p x.end l)

  pub at_before : (p : ℕ) → p < x.start → at (x ∷ xs) p ≡ at xs p
  at_before p h = rw (lt-leb x.start p h)

  pub at_after : (p : ℕ) → x.end < p → at (x ∷ xs) p ≡ at xs p
  at_after p h = rw (lt-leb p x.end h, and_false)

module _ {A : Type 0} where
  pub within_le : (c d : ℕ) (xs : List (Piece A)) → Within c d xs → c ≤ d
  within_le c d [] w = w
  within_le c d (x ∷ xs) w = omega (arith, within_le (x.end + 1) d xs w.2)

  pub at_early : (c d : ℕ) (xs : List (Piece A)) → Within c d xs → (p : ℕ) → p < c → at xs p ≡ None
  at_early c d [] w p h = refl
  at_early c d (x ∷ xs) w p h = at_before x xs p (omega arith) ∙ at_early (x.end + 1) d xs w.2 p (omega arith)

  pub at_late : (c d : ℕ) (xs : List (Piece A)) → Within c d xs → (p : ℕ) → d ≤ p → at xs p ≡ None
  at_late c d [] w p h = refl
  at_late c d (x ∷ xs) w p h = at_after x xs p (omega (arith, within_le (x.end + 1) d xs w.2)) ∙ at_late (x.end + 1) d xs w.2 p (omega arith)

pub le_or_lt : (a b : ℕ) → (a ≤ b) ⊎ (b < a)
le_or_lt a b = go (leb a b) refl
  where
    go : (t : Bool) → leb a b ≡ t → (a ≤ b) ⊎ (b < a)
    go true e = inl (leb-true a b e)
    go false e = inr (leb-false a b e)

module _ {A : Type 0} where
  pub at_tail : (x : Piece A) (xs ys : List (Piece A)) (p : ℕ) → at xs p ≡ at ys p → at (x ∷ xs) p ≡ at (x ∷ ys) p
  at_tail x xs ys p e = rw e

  pub within_mono : (b c d : ℕ) (xs : List (Piece A)) → Within b c xs → c ≤ d → Within b d xs
  within_mono b c d [] w h = omega arith
  within_mono b c d (x ∷ xs) w h = (w.0, w.1, within_mono (x.end + 1) c d xs w.2 h)
