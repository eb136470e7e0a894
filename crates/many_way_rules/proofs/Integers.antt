-- The order of whole numbers, and their quotient cut toward zero, said by the rest that it leaves. Assumes nothing.
use Prim.Native.Nat.{ℕ, zero, suc, ◌+◌, ◌*◌, ◌/◌, ◌%◌, ◌-◌, ◌<◌}
use mathlib.Core.Path.{◌≡◌, refl, sym, ap, ◌∙◌, subst}
use mathlib.Core.Logic.{◌↔◌, ◌⊎◌, inl, inr}
use mathlib.Core.Bool.{Bool, true, false, true≢false}
use native.Mathlib.Omega.{arith}
use native.Mathlib.Nat.{zero-mul, suc-mul, mod-lt, mod-le, div-add-mod', div-eq_of_lt, mul-add-div_right}
use lib.Dec.{T, leb→le, le→leb}
use lib.IntN.{ℤ, pos, negsuc, neg_ℤ, nat_abs, ◌+ℤ◌, ◌*ℤ◌, neg_ℤ-neg_ℤ, neg_ℤ-+ℤ, pos-ne-negsuc}
use lib.Signed.{le_z, quot_z, ◌≤ℤ◌, ≤ℤ_refl}
use borrow.Author.Tests.{leb-false, lt-ltb}
use Rattle.rules.proofs.Extreme.{Order}

le_total : (a b : ℤ) → le_z a b ≡ false → b ≤ℤ a
le_total (pos a) (pos b) e = record { le = le→leb b a (omega (arith, leb-false a b e)) }
le_total (pos a) (negsuc b) e = record { le = tt }
le_total (negsuc a) (pos b) e = absurd (true≢false e)
le_total (negsuc a) (negsuc b) e = record { le = le→leb a b (omega (arith, leb-false b a e)) }

le_trans : (a b c : ℤ) → a ≤ℤ b → b ≤ℤ c → a ≤ℤ c
le_trans (pos a) (pos b) (pos c) p q = record { le = le→leb a c (omega (arith, leb→le a b p.le, leb→le b c q.le)) }
le_trans (pos a) (pos b) (negsuc c) p q = absurd q.le
le_trans (pos a) (negsuc b) c p q = absurd p.le
le_trans (negsuc a) b (pos c) p q = record { le = tt }
le_trans (negsuc a) (pos b) (negsuc c) p q = absurd q.le
le_trans (negsuc a) (negsuc b) (negsuc c) p q = record { le = le→leb c a (omega (arith, leb→le b a p.le, leb→le c b q.le)) }

le_both : (a b : ℤ) → a ≤ℤ b → b ≤ℤ a → a ≡ b
le_both (pos a) (pos b) p q = ap pos (omega (arith, leb→le a b p.le, leb→le b a q.le))
le_both (pos a) (negsuc b) p q = absurd p.le
le_both (negsuc a) (pos b) p q = absurd q.le
le_both (negsuc a) (negsuc b) p q = ap negsuc (omega (arith, leb→le b a p.le, leb→le a b q.le))

pub order_ℤ : Order ◌≤ℤ◌
order_ℤ = record { self = ≤ℤ_refl; trans = le_trans; both = le_both }

pub either_way : (a b : ℤ) → ((le_z a b ≡ true) × (a ≤ℤ b)) ⊎ ((le_z a b ≡ false) × (b ≤ℤ a))
either_way a b = go (le_z a b) refl
  where
    go : (t : Bool) → le_z a b ≡ t → ((t ≡ true) × (a ≤ℤ b)) ⊎ ((t ≡ false) × (b ≤ℤ a))
    go true e = inl (refl, record { le = subst T (sym e) tt })
    go false e = inr (refl, le_total a b e)

-- q is the quotient of s by n, cut toward zero: q times n and a rest make s; the rest is less than n, and not on the other side of 0 than s
pub record TowardZero (s : ℤ) (n : ℕ) (q : ℤ) : Type 0 where
  pub rest : ℤ
  pub whole : s ≡ q *ℤ pos n +ℤ rest
  pub small : nat_abs rest < n
  pub above : pos 0 ≤ℤ s → pos 0 ≤ℤ rest
  pub below : s ≤ℤ pos 0 → rest ≤ℤ pos 0

-- of a sum that is not negative
module _ (n : ℕ) (h : 0 < n) (a : ℕ) where
  quotient : TowardZero (pos a) n (pos (a / n))
  quotient =
      record {
        rest = pos (a % n);
        whole = ap pos (sym (div-add-mod' a n));
        small = mod-lt a h;
        above = λ l. record { le = le→leb 0 (a % n) (omega arith) };
        below = λ l. record { le = le→leb (a % n) 0 (omega (arith, mod-le a n, leb→le a 0 l.le)) };
      }

  below_zero : (m r : ℕ) → r < m → pos a ≡ neg_ℤ (pos m) +ℤ pos r → ⊥
  below_zero zero r l e = omega arith
  below_zero (suc m) r l e = pos-ne-negsuc a (suc m - suc r) (rw (lt-ltb r (suc m) l) at e)

  quotient_only : (q : ℤ) → TowardZero (pos a) n q → pos (a / n) ≡ q
  quotient_only q d = go q d.rest d.whole d.small (d.above (record { le = le→leb 0 a (omega arith) }))
    where
      go : (q r : ℤ) → pos a ≡ q *ℤ pos n +ℤ r → nat_abs r < n → pos 0 ≤ℤ r → pos (a / n) ≡ q
      go q (negsuc r) e l p = absurd p.le
      go (pos k) (pos r) e l p = let c : a ≡ k * n + r = cc in ap pos (rw c (mul-add-div_right h k r ∙ omega (arith, div-eq_of_lt l)))
      go (negsuc k) (pos r) e l p = absurd (below_zero (suc k * n) r (omega (arith, suc-mul k n)) e)

-- with both signs turned
turned : (s q : ℤ) (n : ℕ) → TowardZero s n q → TowardZero (neg_ℤ s) n (neg_ℤ q)
turned s q n d =
    record {
      rest = neg_ℤ d.rest;
      whole = ap neg_ℤ d.whole ∙ neg_ℤ-+ℤ (q *ℤ pos n) d.rest ∙ ap (λ z. z +ℤ neg_ℤ d.rest) (product q);
      small = omega (arith, size d.rest, d.small);
      above = λ l. up d.rest (d.below (rw neg_ℤ-neg_ℤ at (down (neg_ℤ s) l)));
      below = λ l. down d.rest (d.above (rw neg_ℤ-neg_ℤ at (up (neg_ℤ s) l)));
    }
  where
    product : (q : ℤ) → neg_ℤ (q *ℤ pos n) ≡ neg_ℤ q *ℤ pos n
    product (pos zero) = rw zero-mul
    product (pos (suc k)) = refl
    product (negsuc k) = neg_ℤ-neg_ℤ (pos (suc k * n))

    size : (r : ℤ) → nat_abs (neg_ℤ r) ≡ nat_abs r
    size (pos zero) = refl
    size (pos (suc k)) = refl
    size (negsuc k) = refl

    up : (x : ℤ) → x ≤ℤ pos 0 → pos 0 ≤ℤ neg_ℤ x
    up (pos zero) l = l
    up (pos (suc k)) l = absurd (omega (arith, leb→le (suc k) 0 l.le))
    up (negsuc k) l = record { le = le→leb 0 (suc k) (omega arith) }

    down : (x : ℤ) → pos 0 ≤ℤ x → neg_ℤ x ≤ℤ pos 0
    down (pos zero) l = l
    down (pos (suc k)) l = record { le = tt }
    down (negsuc k) l = absurd l.le

pub quotient_exactly : (n : ℕ) → 0 < n → (s q : ℤ) → (quot_z s (pos n) ≡ q) ↔ TowardZero s n q
quotient_exactly n h (pos a) q = (λ e. subst (TowardZero (pos a) n) e (quotient n h a), quotient_only n h a q)
quotient_exactly n h (negsuc a) q = (
  λ e. subst (TowardZero (negsuc a) n) e (turned (pos (suc a)) (pos (suc a / n)) n (quotient n h (suc a))),
  λ d. ap neg_ℤ (quotient_only n h (suc a) (neg_ℤ q) (turned (negsuc a) q n d)) ∙ neg_ℤ-neg_ℤ q,
)
