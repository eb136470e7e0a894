-- The combiners by their numbers, each said in other words: the sum one value at a time and in any order, the largest and the smallest as members that bound all, the number of values, and the mean by what is left of the sum. Assumes nothing.
use Prim.Native.Nat.{ℕ, zero, suc, ◌≤◌, ◌<◌}
use mathlib.Core.Path.{◌≡◌, refl, sym, ap, ap₂, ◌∙◌}
use mathlib.Core.Logic.{◌↔◌, ◌⊎◌, inl, inr, ⊎_elim}
use mathlib.Core.Bool.{true, false, cond, false≢true}
use Rattle.std.specs.declared.option.Option.TheVariants.{None, Some}
use mathlib.Core.List.{List, [], ◌∷◌, ◌++◌, Permᴰ}
use native.Mathlib.Omega.{arith}
use lib.IntN.{ℤ, pos, ◌+ℤ◌, +ℤ_assoc, +ℤ_comm}
use lib.ListN.{length, get_or-replicate}
use lib.Signed.{le_z, ◌≤ℤ◌}
use Rattle.rules.proofs.Faults.{Tells, tells_lt, tells_le, tells_both, tells_not_holds}
use Rattle.rules.proofs.Extreme.{Extreme, reversed, Better, extreme_exactly}
use Rattle.std.proofs.lemmas.Option.{none-some}
use Rattle.many_way_rules.specs.Combiners.{sum_of, largest, smallest, combine, known}
use Rattle.many_way_rules.proofs.Integers.{order_ℤ, either_way, TowardZero, quotient_exactly}

-- the five combiners, and no more
answers : (i : ℕ) (vs : List ℤ) → ((i < 5) × ((w : ℤ) × (combine (suc i) vs ≡ Some w))) ⊎ ((5 ≤ i) × (combine (suc i) vs ≡ None))
answers zero vs = inl (omega arith, (_, refl))
answers (suc zero) vs = inl (omega arith, (_, refl))
answers (suc (suc zero)) vs = inl (omega arith, (_, refl))
answers (suc (suc (suc zero))) vs = inl (omega arith, (_, refl))
answers (suc (suc (suc (suc zero)))) vs = inl (omega arith, (_, refl))
answers (suc (suc (suc (suc (suc i))))) vs = inr (omega arith, refl)

tells_known : (c : ℕ) → Tells (known c) ((0 < c) × (c ≤ 5))
tells_known c = tells_both (tells_lt 0 c) (tells_le c 5)

-- a number is no combiner's exactly where it has no answer
pub known_exactly : (c : ℕ) (vs : List ℤ) → (known c ≡ false) ↔ (combine c vs ≡ None)
known_exactly zero vs = (λ h. refl, λ h. refl)
known_exactly (suc i) vs =
    ⊎_elim
    (λ a. (λ q. absurd ((tells_known (suc i)).no q (omega arith)), λ q. absurd (none-some a.1.0 (sym q ∙ a.1.1))))
    (λ a. (λ q. a.1, λ q. tells_not_holds (tells_known (suc i)) (λ k. omega arith)))
    (answers i vs)

-- over no values each gives 0
pub combine_nothing : (c : ℕ) → known c ≡ true → combine c [] ≡ Some (pos 0)
combine_nothing zero h = absurd (false≢true h)
combine_nothing (suc i) h = get_or-replicate 5 i (Some (pos 0)) None (omega (arith, (tells_known (suc i)).yes h))

-- 1: one value more, wherever it stands, is added, and the order does not matter
pub swapped : (a b c : ℤ) → a +ℤ (b +ℤ c) ≡ b +ℤ (a +ℤ c)
swapped a b c = sym (+ℤ_assoc a b c) ∙ ap (λ z. z +ℤ c) (+ℤ_comm a b) ∙ +ℤ_assoc b a c

sum_of_more : (xs ys : List ℤ) (v : ℤ) → sum_of (xs ++ v ∷ ys) ≡ v +ℤ sum_of (xs ++ ys)
sum_of_more [] ys v = refl
sum_of_more (x ∷ xs) ys v = ap (λ z. x +ℤ z) (sum_of_more xs ys v) ∙ swapped x v (sum_of (xs ++ ys))

sum_of_permuted : {vs us : List ℤ} → Permᴰ vs us → sum_of vs ≡ sum_of us
sum_of_permuted Permᴰ.nil = refl
sum_of_permuted (Permᴰ.cons e p) = ap₂ ◌+ℤ◌ e (sum_of_permuted p)
sum_of_permuted (Permᴰ.swap {a} {b} {l = l} e f) = swapped a b (sum_of l) ∙ ap₂ ◌+ℤ◌ f (ap (λ z. z +ℤ sum_of l) e)
sum_of_permuted (Permᴰ.trans p q) = sum_of_permuted p ∙ sum_of_permuted q

pub sum_more : (xs ys : List ℤ) (v s : ℤ) → combine 1 (xs ++ ys) ≡ Some s → combine 1 (xs ++ v ∷ ys) ≡ Some (v +ℤ s)
sum_more xs ys v s e = let q : sum_of (xs ++ ys) ≡ s = cc in ap Some (sum_of_more xs ys v ∙ ap (λ z. v +ℤ z) q)

pub sum_permuted : {vs us : List ℤ} → Permᴰ vs us → combine 1 vs ≡ combine 1 us
sum_permuted p = ap Some (sum_of_permuted p)

-- 2 and 3: one of the values, and no value is beyond it
larger : (v m : ℤ) → Better ◌≤ℤ◌ v m (cond (le_z v m) m v)
larger v m = ⊎_elim (λ h. inr (ap (λ t. cond t m v) h.0, h.1)) (λ h. inl (ap (λ t. cond t m v) h.0, h.1)) (either_way v m)

smaller : (v m : ℤ) → Better (λ a b. b ≤ℤ a) v m (cond (le_z v m) v m)
smaller v m = ⊎_elim (λ h. inl (ap (λ t. cond t v m) h.0, h.1)) (λ h. inr (ap (λ t. cond t v m) h.0, h.1)) (either_way v m)

-- an answer is known by its value
known_by : {a m : ℤ} {X : Type 0} → (a ≡ m) ↔ X → (Some a ≡ Some m) ↔ X
known_by e = (λ q. e.0 (cc), λ x. ap Some (e.1 x))

pub largest_exactly : (v : ℤ) (vs : List ℤ) (m : ℤ) → (combine 2 (v ∷ vs) ≡ Some m) ↔ Extreme ◌≤ℤ◌ (v ∷ vs) m
largest_exactly v vs m = known_by (extreme_exactly ◌≤ℤ◌ order_ℤ largest (λ x. refl) (λ x y ys. larger x (largest (y ∷ ys))) v vs m)

pub smallest_exactly : (v : ℤ) (vs : List ℤ) (m : ℤ) → (combine 3 (v ∷ vs) ≡ Some m) ↔ Extreme (λ a b. b ≤ℤ a) (v ∷ vs) m
smallest_exactly v vs m = known_by (extreme_exactly (λ a b. b ≤ℤ a) (reversed order_ℤ) smallest (λ x. refl) (λ x y ys. smaller x (smallest (y ∷ ys))) v vs m)

-- 4
pub number_exactly : (vs : List ℤ) → combine 4 vs ≡ Some (pos (length vs))
number_exactly vs = refl

-- 5: the quotient of the sum by the number of values
pub mean_exactly : (v : ℤ) (vs : List ℤ) (s q : ℤ) → combine 1 (v ∷ vs) ≡ Some s → (combine 5 (v ∷ vs) ≡ Some q) ↔ TowardZero s (length (v ∷ vs)) q
mean_exactly v vs s q e = let c : sum_of (v ∷ vs) ≡ s = cc in rw (← c) (known_by (quotient_exactly (length (v ∷ vs)) (omega arith) (sum_of (v ∷ vs)) q))
