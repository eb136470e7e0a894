-- A heap's order and contents, over its places as a function from a place to the rank of the entry there. Assumes nothing.
use Rattle.std.specs.Prelude.{ℕ, zero, suc, ◌+◌, ◌*◌, ◌<◌, ◌≤◌, cond, eqb}
use Rattle.std.specs.Coded.{Π_prop, le_prop}

-- i is a child of p: 2p + 1 or 2p + 2
pub record Under (p i : ℕ) : Type 0 where
  pub past : 2 * p < i
  pub near : i ≤ 2 * p + 2

-- among the first n places, no parent is above its children
unfoldable pub Ordered : (ℕ → ℕ) → ℕ → Type 0
Ordered f n = (p i : ℕ) → Under p i → i < n → f p ≤ f i

pub Ordered_prop : (f : ℕ → ℕ) (n : ℕ) → IsProp (Ordered f n)
unfolding Ordered
Ordered_prop f n = Π_prop (λ p. Π_prop (λ i. Π_prop (λ u. Π_prop (λ l. le_prop))))

-- 1 where x is e, else 0
unfoldable pub one : ℕ → ℕ → ℕ
one e x = cond (eqb e x) 1 0

-- how many of the first n places have e
unfoldable pub count : ℕ → (ℕ → ℕ) → ℕ → ℕ
count e f zero = 0
count e f (suc n) = one e (f n) + count e f n
