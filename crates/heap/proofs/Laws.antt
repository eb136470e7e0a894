-- Laws of a heap's order and contents, for its callers and its own proofs. Assumes nothing.
use Prim.Native.Nat.{ℕ, zero, suc, ◌+◌, ◌/◌, ◌<◌, ◌≤◌}
use mathlib.Core.Path.{◌≡◌, refl, sym, ap}
use native.Mathlib.Numerals.{add-one}
use native.Mathlib.Omega.{arith}
use native.Mathlib.Decide.{ℕ_discrete}
use borrow.Author.Tests.{eq-eqb, ne_eqb}
use Rattle.heap.specs.Order.{Ordered, one, count}
use Rattle.heap.specs.Heap.{rank, ranks, Heap}
use Rattle.heap.specs.declared.Heap as declared

pub by_eq : {C : Type 0} (a b : ℕ) → (a ≡ b → C) → ((a ≡ b → ⊥) → C) → C
by_eq {C} a b f g = pick (ℕ_discrete a b)
  where
    pick : Dec (a ≡ b) → C
    pick (yes e) = f e
    pick (no h) = g h

-- ranks are in the order of (key, list)
pub rank_le : {a b x y : ℕ} → y < 256 → rank a x ≤ rank b y → (a ≤ b) × (a ≡ b → x ≤ y)
unfolding rank
rank_le f h = (omega arith, λ e. omega arith)

-- two entries of one rank are the same entry
pub rank_one : {a b x y : ℕ} → x < 256 → y < 256 → rank a x ≡ rank b y → (a ≡ b) × (x ≡ y)
unfolding rank
rank_one f g h = (omega arith, omega arith)

pub one_same : (e : ℕ) → one e e ≡ 1
unfolding one
one_same e = rw (eq-eqb e e refl)

pub one_other : (e x : ℕ) → (e ≡ x → ⊥) → one e x ≡ 0
unfolding one
one_other e x h = rw (ne_eqb e x h)

module _ (f : ℕ → ℕ) where
  pub count_none : (e : ℕ) → count e f 0 ≡ 0
  unfolding count
  count_none e = refl

  pub count_more : (e n : ℕ) → count e f (n + 1) ≡ one e (f n) + count e f n
  unfolding count
  count_more e n = ap (count e f) (add-one n)

  -- what stands at a place is counted
  pub count_at : (n i : ℕ) → i < n → 0 < count (f i) f n
  unfolding count
  count_at zero i l = absurd (omega arith)
  count_at (suc n) i l =
      by_eq i n
      (λ q. omega (arith, ap (one (f i)) (ap f q), one_same (f i)))
      (λ ne. omega (arith, count_at n i (omega arith)))

  -- what is counted stands at a place
  pub counted : (e n : ℕ) → 0 < count e f n → (i : ℕ) × (i < n) × (f i ≡ e)
  unfolding count
  counted e zero h = absurd (omega arith)
  counted e (suc n) h =
      by_eq e (f n)
      (λ q. (n, omega arith, sym q))
      (λ ne. let c = counted e n (omega (arith, one_other e (f n) ne)) in (c.0, omega (arith, c.1), c.2))

  least : (n : ℕ) → Ordered f n → (k i : ℕ) → i < k → i < n → f 0 ≤ f i
  unfolding Ordered
  least n o zero i h l = absurd (omega arith)
  least n o (suc k) zero h l = omega arith
  least n o (suc k) (suc i) h l = omega (arith, o (i / 2) (suc i) (omega arith) l, least n o k (i / 2) (omega arith) (omega arith))

  -- the top is the least
  pub top_least : (n : ℕ) → Ordered f n → (i : ℕ) → i < n → f 0 ≤ f i
  top_least n o i l = least n o (suc i) i (omega arith) l

  pub top_counted : (e n : ℕ) → Ordered f n → 0 < count e f n → f 0 ≤ e
  top_counted e n o h = let c = counted e n h in omega (arith, top_least n o c.0 c.1, c.2)

-- a heap of no entries, whatever stands in its places
pub heap_none : {f : ℕ → ℕ} → Heap f 0
unfolding Ordered
heap_none = record { small = omega arith; ordered = λ p i u l. absurd (omega arith) }

-- what a heap's type says of it
pub heap_of : (h : declared.Heap) → Heap (ranks h.places) h.len
heap_of h = record { small = h.small; ordered = h.ordered }
