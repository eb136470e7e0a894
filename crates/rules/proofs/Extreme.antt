-- The extreme of some things: one of them, which no other is beyond. What picks it, two at a time, is known by that. Assumes nothing.
use Prim.Native.Nat.{ℕ, min, ◌≤◌}
use mathlib.Core.Path.{◌≡◌, refl, sym, subst}
use mathlib.Core.Logic.{◌↔◌, ◌⊎◌, inl, inr, ⊎_elim}
use mathlib.Core.List.Memᴰ
use mathlib.Core.List.{List, [], ◌∷◌, Memᴰ}
use native.Mathlib.Omega.{arith}
use Rattle.rules.specs.Answer.{least}
use Rattle.rules.proofs.At.{le_or_lt}

-- m is one of xs, and R says that none of xs is beyond it
pub record Extreme {A : Type 0} (R : A → A → Type 0) (xs : List A) (m : A) : Type 0 where
  pub member : Memᴰ m xs
  pub bound : (x : A) → Memᴰ x xs → R x m

pub record Order {A : Type 0} (R : A → A → Type 0) : Type 0 where
  pub self : (a : A) → R a a
  pub trans : (a b c : A) → R a b → R b c → R a c
  pub both : (a b : A) → R a b → R b a → a ≡ b

pub reversed : {A : Type 0} {R : A → A → Type 0} → Order R → Order (λ a b. R b a)
reversed o = record { self = o.self; trans = λ a b c p q. o.trans c b a q p; both = λ a b p q. o.both a b q p }

-- r is the better of x and m
abbrev pub Better : {A : Type 0} → (A → A → Type 0) → A → A → A → Type 0
Better R x m r = ((r ≡ x) × R m x) ⊎ ((r ≡ m) × R x m)

module _ {A : Type 0} (R : A → A → Type 0) (order : Order R) where
  pub extreme_only : (xs : List A) (m n : A) → Extreme R xs m → Extreme R xs n → m ≡ n
  extreme_only xs m n e f = order.both m n (f.bound m e.member) (e.bound n f.member)

  one_extreme : (x : A) → Extreme R (x ∷ []) x
  one_extreme x = record { member = Memᴰ.head refl; bound = λ y i. ⊎_elim (λ q. subst (λ z. R z x) (sym q) (order.self x)) (λ j. absurd (Memᴰ.not-nil j)) (Memᴰ.cases_cons i) }

  more_extreme : (x : A) (xs : List A) (m r : A) → Extreme R xs m → Better R x m r → Extreme R (x ∷ xs) r
  more_extreme x xs m r e (inl b) =
      record {
        member = Memᴰ.head b.0;
        bound = λ y i. subst (R y) (sym b.0) (⊎_elim (λ q. subst (λ z. R z x) (sym q) (order.self x)) (λ j. order.trans y m x (e.bound y j) b.1) (Memᴰ.cases_cons i));
      }
  more_extreme x xs m r e (inr b) =
      record {
        member = Memᴰ.tail (subst (λ z. Memᴰ z xs) (sym b.0) e.member);
        bound = λ y i. subst (R y) (sym b.0) (⊎_elim (λ q. subst (λ z. R z m) (sym q) b.1) (λ j. e.bound y j) (Memᴰ.cases_cons i));
      }

  -- what picks the better of the first and the rest's
  module _ (f : List A → A) (one : (x : A) → f (x ∷ []) ≡ x) (more : (x y : A) (ys : List A) → Better R x (f (y ∷ ys)) (f (x ∷ y ∷ ys))) where
    picked_extreme : (x : A) (xs : List A) → Extreme R (x ∷ xs) (f (x ∷ xs))
    picked_extreme x [] = subst (Extreme R (x ∷ [])) (sym (one x)) (one_extreme x)
    picked_extreme x (y ∷ ys) = more_extreme x (y ∷ ys) (f (y ∷ ys)) (f (x ∷ y ∷ ys)) (picked_extreme y ys) (more x y ys)

    pub extreme_exactly : (x : A) (xs : List A) (m : A) → (f (x ∷ xs) ≡ m) ↔ Extreme R (x ∷ xs) m
    extreme_exactly x xs m = (λ q. subst (Extreme R (x ∷ xs)) q (picked_extreme x xs), λ e. extreme_only (x ∷ xs) (f (x ∷ xs)) m (picked_extreme x xs) e)

-- the shortest of some lengths
abbrev pub Shortest : List ℕ → ℕ → Type 0
Shortest ns r = Extreme (λ n m. m ≤ n) ns r

pub least_exactly : (n : ℕ) (ns : List ℕ) (r : ℕ) → (least (n ∷ ns) ≡ r) ↔ Shortest (n ∷ ns) r
least_exactly = extreme_exactly (λ n m. m ≤ n) (record { self = λ a. omega arith; trans = λ a b c p q. omega arith; both = λ a b p q. omega arith }) least (λ n. refl) (λ n m ms. better n (least (m ∷ ms)))
  where
    better : (n m : ℕ) → Better (λ a b. b ≤ a) n m (min n m)
    better n m = ⊎_elim (λ h. inl (omega arith, h)) (λ h. inr (omega arith, omega arith)) (le_or_lt n m)
