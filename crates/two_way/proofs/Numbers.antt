-- The number of a piece's sides: what it names. Assumes nothing.
use Prim.Native.Nat.{ℕ, zero, suc, ◌≤◌, ◌<◌}
use mathlib.Core.Path.{◌≡◌, refl}
use native.Mathlib.Omega.{arith}
use lib.Dec.{eqb}
use borrow.Author.Tests.{ne_eqb}
use Rattle.rules.specs.TwoWay.{presence}
use Rattle.two_way.specs.Sides.{unless, no_left, no_right, sides_of, piece_of}
use Rattle.two_way.specs.declared.Pair.{Pair}
use Rattle.two_way.specs.declared.Presence.{Presence}
use Rattle.two_way.specs.declared.Presence.TheVariants.{Left, Right, Both}

-- 2 alone misses the left, and 1 alone the right
pub named_left : (n : ℕ) → no_left (sides_of n) ≡ eqb n 2
named_left zero = refl
named_left (suc zero) = refl
named_left (suc (suc zero)) = refl
named_left (suc (suc (suc n))) = rw (ne_eqb (suc (suc (suc n))) 1 (λ e. omega arith), ne_eqb (suc (suc (suc n))) 2 (λ e. omega arith)) refl

pub named_right : (n : ℕ) → no_right (sides_of n) ≡ eqb n 1
named_right zero = refl
named_right (suc zero) = refl
named_right (suc (suc zero)) = refl
named_right (suc (suc (suc n))) = rw (ne_eqb (suc (suc (suc n))) 1 (λ e. omega arith), ne_eqb (suc (suc (suc n))) 2 (λ e. omega arith)) refl

-- a piece's number names its sides
pub number_names : (y : Pair) → sides_of (presence (piece_of y).value) ≡ y.presence
number_names y = go y.presence
  where
    go : (p : Presence) → sides_of (presence (unless (no_left p) y.left, unless (no_right p) y.right)) ≡ p
    go Left = refl
    go Right = refl
    go Both = refl

-- and of the sides that 1, 2 and 3 name it is that number again
pub named_number : (n : ℕ) → 0 < n → n ≤ 3 → (i j : ℕ) → presence (unless (no_left (sides_of n)) i, unless (no_right (sides_of n)) j) ≡ n
named_number zero l h i j = absurd (omega arith)
named_number (suc zero) l h i j = refl
named_number (suc (suc zero)) l h i j = refl
named_number (suc (suc (suc zero))) l h i j = refl
named_number (suc (suc (suc (suc n)))) l h i j = absurd (omega arith)
