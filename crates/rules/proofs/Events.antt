-- Which events there are: for each range of each list its start and its end, and no other. Assumes nothing.
use Prim.Native.Nat.{ℕ, zero, suc, ◌+◌}
use mathlib.Core.Path.{◌≡◌, refl, subst}
use mathlib.Core.Logic.{◌↔◌, ◌⊎◌, inl, inr, ⊎_elim}
use mathlib.Core.List.Memᴰ
use mathlib.Core.List.{List, [], ◌∷◌, ◌++◌, Memᴰ}
use native.Mathlib.Omega.{arith}
use lib.ListN.{get_or}
use Rattle.rules.specs.Piece.{Piece}
use Rattle.rules.specs.Sweep.{Event, starts, ends, own, listed, events, In}
use Rattle.rules.proofs.Sweep.{sort_in, sort_keeps}

module _ {A : Type 0} (e : Event A) where
  -- e is the start or the end of x, of the list numbered k
  abbrev pub Of : ℕ → Piece A → Type 0
  Of k x = (e ≡ starts x.start k x.value) ⊎ (e ≡ ends x.end k)

  in_left : (es fs : List (Event A)) → In e es → In e (es ++ fs)
  in_left [] fs x' = elim x' [ ]
  in_left (x ∷ xs) fs (inl q) = inl q
  in_left (x ∷ xs) fs (inr i) = inr (in_left xs fs i)

  in_right : (es fs : List (Event A)) → In e fs → In e (es ++ fs)
  in_right [] fs i = i
  in_right (x ∷ xs) fs i = inr (in_right xs fs i)

  in_split : (es fs : List (Event A)) → In e (es ++ fs) → In e es ⊎ In e fs
  in_split [] fs i = inr i
  in_split (x ∷ xs) fs (inl q) = inl (inl q)
  in_split (x ∷ xs) fs (inr i) = ⊎_elim (λ j. inl (inr j)) inr (in_split xs fs i)

  own_from : (k : ℕ) (l : List (Piece A)) → In e (own k l) → (x : Piece A) × Memᴰ x l × Of k x
  own_from k [] x' = elim x' [ ]
  own_from k (x ∷ xs) (inl q) = (x, Memᴰ.head refl, inl q)
  own_from k (x ∷ xs) (inr (inl q)) = (x, Memᴰ.head refl, inr q)
  own_from k (x ∷ xs) (inr (inr i)) = let r = own_from k xs i in (r.0, Memᴰ.tail r.1, r.2)

  own_has : (k : ℕ) (x : Piece A) (l : List (Piece A)) → Memᴰ x l → Of k x → In e (own k l)
  own_has k x [] m o = absurd (Memᴰ.not-nil m)
  own_has k x (y ∷ ys) m o = ⊎_elim (λ q. ⊎_elim inl (λ r. inr (inl r)) (subst (Of k) q o)) (λ j. inr (inr (own_has k x ys j o))) (Memᴰ.cases_cons m)

  listed_from : (n : ℕ) (ls : List (List (Piece A))) → In e (listed n ls) → (k : ℕ) × (x : Piece A) × Memᴰ x (get_or ls k []) × Of (n + k) x
  listed_from n [] i = elim i [ ]
  listed_from n (l ∷ ls) i =
      ⊎_elim (λ j. let r = own_from n l j in let q : n + 0 ≡ n = omega arith in (0, r.0, r.1, rw q r.2))
      (λ j. let r = listed_from (suc n) ls j in let q : n + suc r.0 ≡ suc n + r.0 = omega arith in (suc r.0, r.1, r.2, rw q r.3))
      (in_split (own n l) (listed (suc n) ls) i)

  listed_has : (n k : ℕ) (x : Piece A) (ls : List (List (Piece A))) → Memᴰ x (get_or ls k []) → Of (n + k) x → In e (listed n ls)
  listed_has n k x [] m o = absurd (Memᴰ.not-nil m)
  listed_has n zero x (l ∷ ls) m o = let q : n + 0 ≡ n = omega arith in in_left (own n l) (listed (suc n) ls) (own_has n x l m (rw q at o))
  listed_has n (suc k) x (l ∷ ls) m o = let q : n + suc k ≡ suc n + k = omega arith in in_right (own n l) (listed (suc n) ls) (listed_has (suc n) k x ls m (rw q at o))

  pub events_exactly : (ls : List (List (Piece A))) → In e (events ls) ↔ ((k : ℕ) × (x : Piece A) × Memᴰ x (get_or ls k []) × Of k x)
  unfolding events
  events_exactly ls = (
    λ i. let r = listed_from 0 ls (sort_in e (listed 0 ls) i) in let q : 0 + r.0 ≡ r.0 = omega arith in (r.0, r.1, r.2, rw q at r.3),
    λ h. let q : 0 + h.0 ≡ h.0 = omega arith in sort_keeps e (listed 0 ls) (listed_has 0 h.0 h.1 ls h.2 (rw q h.3)),
  )
