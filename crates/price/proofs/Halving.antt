-- What halving and counting find: turns enough are enough, the place is among those it began with, and where the starts ascend it is the last that is not beyond the point. Assumes nothing.
use Prim.Native.Nat.{ℕ, zero, suc, ◌+◌, ◌-◌, ◌/◌, ◌≤◌, ◌<◌, min}
use mathlib.Core.Path.{◌≡◌, refl, sym, ◌∙◌}
use mathlib.Core.Logic.{◌⊎◌, inl, inr}
use mathlib.Core.Bool.{cond}
use native.Mathlib.Omega.{arith}
use lib.Dec.{leb}
use borrow.Author.Tests.{le-leb, lt-leb, lt-ltb, le-ltb}
use Rattle.rules.proofs.At.{le_or_lt}
use Rattle.price.specs.Reading.{halve, begun, count, found}

-- the last of n places whose start is not beyond p; the first where all are
pub record Last (start : ℕ → ℕ) (p n r : ℕ) : Type 0 where
  pub among : r < n
  pub reached : start 0 ≤ p → start r ≤ p
  pub later : (j : ℕ) → r < j → j < n → p < start j

module _ (start : ℕ → ℕ) (p : ℕ) where
  -- where one turn goes on
  abbrev turned : ℕ → ℕ → ℕ
  turned b n = cond (leb (start (b + n / 2)) p) (b + n / 2) b

  turned_up : (b n : ℕ) → start (b + n / 2) ≤ p → turned b n ≡ b + n / 2
  turned_up b n h = rw (le-leb (start (b + n / 2)) p h)

  turned_down : (b n : ℕ) → p < start (b + n / 2) → turned b n ≡ b
  turned_down b n h = rw (lt-leb (start (b + n / 2)) p h)

  -- halving while more than m places are left
  module _ (m : ℕ) where
    -- m places and fewer stay
    still : (turns b n : ℕ) → n ≤ m → halve start p m turns b n ≡ b
    unfolding halve
    still zero b n h = refl
    still (suc turns) b n h = rw (le-ltb m n h)

    halved : (turns b n : ℕ) → m < n → halve start p m (suc turns) b n ≡ halve start p m turns (turned b n) (n - n / 2)
    unfolding halve
    halved turns b n h = rw (lt-ltb m n h)

    -- more turns change nothing
    more : 0 < m → (turns turns' b n : ℕ) → n ≤ turns + m → turns ≤ turns' → halve start p m turns b n ≡ halve start p m turns' b n
    more o zero turns' b n h l = still zero b n (omega arith) ∙ sym (still turns' b n (omega arith))
    more o (suc turns) zero b n h l = absurd (omega arith)
    more o (suc turns) (suc turns') b n h l = go (le_or_lt n m) (λ z. more o turns turns' (turned b n) (n - n / 2) (omega arith) (omega arith))
      where
        go : (n ≤ m) ⊎ (m < n) → (m < n → halve start p m turns (turned b n) (n - n / 2) ≡ halve start p m turns' (turned b n) (n - n / 2)) → halve start p m (suc turns) b n ≡ halve start p m (suc turns') b n
        go (inl z) rest = still (suc turns) b n z ∙ sym (still (suc turns') b n z)
        go (inr z) rest = halved turns b n z ∙ rest z ∙ sym (halved turns' b n z)

    turn : 0 < m → (b n : ℕ) → m < n → halve start p m n b n ≡ halve start p m (n - n / 2) (turned b n) (n - n / 2)
    turn o b zero h = absurd (omega arith)
    turn o b (suc n) h = halved n b (suc n) h ∙ sym (more o (suc n - suc n / 2) n (turned b (suc n)) (suc n - suc n / 2) (omega arith) (omega arith))

  begun_yes : (i : ℕ) → start i ≤ p → begun start p i ≡ 1
  begun_yes i h = rw (le-leb (start i) p h)

  begun_no : (i : ℕ) → p < start i → begun start p i ≡ 0
  begun_no i h = rw (lt-leb (start i) p h)

  at_same : (i j : ℕ) → j ≡ i → start i ≤ p → start j ≤ p
  at_same i j e h = rw e h

  beyond_same : (i j : ℕ) → j ≡ i → p < start i → p < start j
  beyond_same i j e h = rw e h

  -- starts that ascend, of n places
  module _ (n : ℕ) (ascend : (i j : ℕ) → i ≤ j → j < n → start i ≤ start j) where
    -- the last is one of the m places from r on
    record Near (m r : ℕ) : Type 0 where
      among : r < n
      reached : start 0 ≤ p → start r ≤ p
      later : (j : ℕ) → r + m ≤ j → j < n → p < start j

    narrow : (m : ℕ) → 0 < m → (turns b k : ℕ) → 0 < k → k ≤ turns + m → b + k ≤ n → (start 0 ≤ p → start b ≤ p) → ((j : ℕ) → b + k ≤ j → j < n → p < start j) → Near m (halve start p m turns b k)
    narrow m o zero b k h t l low high = rw (still m zero b k (omega arith)) (record { among = omega arith; reached = low; later = λ j a y. high j (omega arith) y })
    narrow m o (suc turns) b k h t l low high =
        go (le_or_lt k m) (le_or_lt (start (b + k / 2)) p)
        (λ z y. narrow m o turns (b + k / 2) (k - k / 2) (omega arith) (omega arith) (omega arith) (λ x. y) (λ j a x. high j (omega arith) x))
        (λ z y. narrow m o turns b (k - k / 2) (omega arith) (omega arith) (omega arith) low (λ j a x. omega (arith, y, ascend (b + k / 2) j (omega arith) x)))
      where
        go : (k ≤ m) ⊎ (m < k) → (start (b + k / 2) ≤ p) ⊎ (p < start (b + k / 2)) → (m < k → start (b + k / 2) ≤ p → Near m (halve start p m turns (b + k / 2) (k - k / 2))) → (m < k → p < start (b + k / 2) → Near m (halve start p m turns b (k - k / 2))) → Near m (halve start p m (suc turns) b k)
        go (inl z) y up down = rw (still m (suc turns) b k z) (record { among = omega arith; reached = low; later = λ j a x. high j (omega arith) x })
        go (inr z) (inl y) up down = rw (halved m turns b k z, turned_up b k y) (up z y)
        go (inr z) (inr y) up down = rw (halved m turns b k z, turned_down b k y) (down z y)

    near : (m : ℕ) → 0 < m → 0 < n → Near m (halve start p m n 0 n)
    near m o h = narrow m o n 0 n h (omega arith) (omega arith) (λ z. z) (λ j a z. absurd (omega arith))

    -- of the k places after b, the first c have begun
    record Counted (b k c : ℕ) : Type 0 where
      few : c ≤ k
      reached : start b ≤ p → start (b + c) ≤ p
      later : (j : ℕ) → b + c < j → j ≤ b + k → p < start j

    counts : (b k : ℕ) → b + k < n → Counted b k (count start p b k)
    unfolding count
    counts b zero h = record { few = omega arith; reached = λ z. at_same b (b + 0) (omega arith) z; later = λ j a z. absurd (omega arith) }
    counts b (suc k) h = go (counts b k (omega arith)) (le_or_lt (start (b + suc k)) p)
      where
        go : Counted b k (count start p b k) → (start (b + suc k) ≤ p) ⊎ (p < start (b + suc k)) → Counted b (suc k) (count start p b k + begun start p (b + suc k))
        go i (inl z) = rw (begun_yes (b + suc k) z) (all (le_or_lt k (count start p b k)))
          where
            all : (k ≤ count start p b k) ⊎ (count start p b k < k) → Counted b (suc k) (count start p b k + 1)
            all (inl y) = record { few = omega (arith, i.few); reached = λ x. at_same (b + suc k) (b + (count start p b k + 1)) (omega (arith, i.few)) z; later = λ j a x. absurd (omega arith) }
            all (inr y) = absurd (omega (arith, i.later (b + count start p b k + 1) (omega arith) (omega arith), ascend (b + count start p b k + 1) (b + suc k) (omega arith) h))
        go i (inr z) = rw (begun_no (b + suc k) z) (record { few = omega (arith, i.few); reached = λ x. at_same (b + count start p b k) (b + (count start p b k + 0)) (omega arith) (i.reached x); later = λ j a x. last j a x (le_or_lt j (b + k)) })
          where
            last : (j : ℕ) → b + (count start p b k + 0) < j → j ≤ b + suc k → (j ≤ b + k) ⊎ (b + k < j) → p < start j
            last j a x (inl y) = i.later j (omega arith) y
            last j a x (inr y) = beyond_same (b + suc k) j (omega arith) z

    -- the last is one of the 16 places from b on, and those counted come to it
    last_of : (r b : ℕ) → 16 ≤ n → Near 16 r → b ≡ min r (n - 16) → (c : ℕ) → Counted b 15 c → Last start p n (b + c)
    last_of r b h near e c i =
        record {
          among = omega (arith, i.few);
          reached = λ z. i.reached (omega (arith, near.reached z, ascend b r (omega arith) near.among));
          later = λ j a z. rest j a z (le_or_lt j (b + 15));
        }
      where
        rest : (j : ℕ) → b + c < j → j < n → (j ≤ b + 15) ⊎ (b + 15 < j) → p < start j
        rest j a z (inl y) = i.later j a y
        rest j a z (inr y) = near.later j (omega arith) z

    pub found_last : 0 < n → Last start p n (found start p n)
    found_last h = go (le_or_lt 16 n)
      where
        go : (16 ≤ n) ⊎ (n < 16) → Last start p n (found start p n)
        go (inl z) = let b = min (halve start p 16 n 0 n) (n - 16) in rw (le-ltb n 16 z) (last_of _ b z (near 16 (omega arith) h) refl _ (counts b 15 (omega arith)))
        go (inr z) = let r = near 1 (omega arith) h in rw (lt-ltb n 16 z) (record { among = r.among; reached = r.reached; later = λ j a y. r.later j (omega arith) y })

-- what a loop keeps that halves: where it comes to among the n places from b on is where it comes to among all
pub record Halved (start : ℕ → ℕ) (p m all b n : ℕ) : Type 0 where
  pub some : 0 < n
  pub inside_all : b + n ≤ all
  pub same : halve start p m all 0 all ≡ halve start p m n b n

module _ {start : ℕ → ℕ} {p : ℕ} where
  module _ {m all b n : ℕ} (i : Halved start p m all b n) where
    -- a turn, with the start at the middle
    module _ (o : 0 < m) (h : m < n) (k : ℕ) (e : k ≡ start (b + n / 2)) where
      pub upper : k ≤ p → Halved start p m all (b + n / 2) (n - n / 2)
      upper l = let q = turned_up start p b n (omega arith) in record { some = omega arith; inside_all = omega (arith, i.inside_all); same = i.same ∙ turn start p m o b n h ∙ rw q }

      pub lower : p < k → Halved start p m all b (n - n / 2)
      lower l = let q = turned_down start p b n (omega arith) in record { some = omega arith; inside_all = omega (arith, i.inside_all); same = i.same ∙ turn start p m o b n h ∙ rw q }

    pub ended : n ≤ m → (b ≡ halve start p m all 0 all) × (b < all)
    ended h = (sym (i.same ∙ still start p m n b n h), omega (arith, i.some, i.inside_all))
