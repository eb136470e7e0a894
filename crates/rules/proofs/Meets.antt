-- Two-way inner is one piece for every left range and right range that share a point, being their intersection. Assumes nothing.
use Prim.Native.Nat.{ℕ, zero, suc, max, min, ◌+◌, ◌≤◌, ◌<◌}
use mathlib.Core.Path.{◌≡◌, refl, sym, ◌∙◌, ap, ap₂}
use mathlib.Core.Logic.{◌≢◌, ◌⊎◌, inl, inr}
use mathlib.Core.Bool.{Bool, true, false, cond}
use Rattle.std.specs.declared.option.Option.{Option}
use Rattle.std.specs.declared.option.Option.TheVariants.{None, Some}
use mathlib.Core.List.{List, [], ◌∷◌, ◌++◌}
use native.Mathlib.Omega.{arith}
use lib.Dec.{leb}
use borrow.Author.Tests.{le-leb, leb-true}
use Rattle.rules.specs.Piece.{Piece, at, holds, Within, WellFormed, Differ}
use Rattle.rules.specs.Lists.{ranges}
use Rattle.rules.specs.TwoWay.{Match, pair_rule, paired, meet, meet_all, meets}
use Rattle.rules.specs.declared.Pairing.TheVariants.{Inner}
use Rattle.rules.proofs.At.{at_in, at_before, at_after, le_or_lt}
use Rattle.rules.proofs.TwoWay.{within_low, paired_only}

-- the first of two that is there
abbrev either : {A : Type 0} → Option A → Option A → Option A
either None b = b
either (Some a) b = Some a

module _ {A : Type 0} where
  at_append : (xs ys : List (Piece A)) (p : ℕ) → at (xs ++ ys) p ≡ either (at xs p) (at ys p)
  at_append [] ys p = refl
  at_append (x ∷ xs) ys p = go (holds x p) (at_append xs ys p)
    where
      go : (t : Bool) → at (xs ++ ys) p ≡ either (at xs p) (at ys p) → cond t (Some x.value) (at (xs ++ ys) p) ≡ either (cond t (Some x.value) (at xs p)) (at ys p)
      go true rest = refl
      go false rest = rest

  within_append : (b c n : ℕ) (xs ys : List (Piece A)) → Within b c xs → Within c n ys → Within b n (xs ++ ys)
  within_append b c n [] ys u w = within_low b c n ys u w
  within_append b c n (x ∷ xs) ys u w = (u.0, u.1, within_append (x.end + 1) c n xs ys u.2 w)

  -- of the value of every piece
  abbrev pub Each : (A → Type 0) → List (Piece A) → Type 0
  Each P [] = Unit {0}
  Each P (x ∷ xs) = P x.value × Each P xs

  each_map : {P Q : A → Type 0} → ((v : A) → P v → Q v) → (xs : List (Piece A)) → Each P xs → Each Q xs
  each_map g [] e = tt
  each_map g (x ∷ xs) e = (g x.value e.0, each_map g xs e.1)

  each_any : {P : A → Type 0} → ((v : A) → P v) → (xs : List (Piece A)) → Each P xs
  each_any g [] = tt
  each_any g (x ∷ xs) = (g x.value, each_any g xs)

  each_append : (P : A → Type 0) (xs ys : List (Piece A)) → Each P xs → Each P ys → Each P (xs ++ ys)
  each_append P [] ys u w = w
  each_append P (x ∷ xs) ys u w = (u.0, each_append P xs ys u.1 w)

  -- no two pieces have one value
  abbrev pub Distinct : List (Piece A) → Type 0
  Distinct [] = Unit {0}
  Distinct (x ∷ xs) = Each (λ v. x.value ≢ v) xs × Distinct xs

  distinct_append : (xs ys : List (Piece A)) → Distinct xs → Distinct ys → Each (λ v. Each (λ u. v ≢ u) ys) xs → Distinct (xs ++ ys)
  distinct_append [] ys d f e = f
  distinct_append (x ∷ xs) ys d f e = (each_append (λ v. x.value ≢ v) xs ys d.0 e.0, distinct_append xs ys d.1 f e.1)

  distinct_differ : (xs : List (Piece A)) → Distinct xs → Differ xs
  distinct_differ [] d = tt
  distinct_differ (x ∷ []) d = (tt, tt)
  distinct_differ (x ∷ y ∷ ys) d = (λ q. d.0.0, distinct_differ (y ∷ ys) d.1)

-- both, where both are there
abbrev both : Option ℕ → Option ℕ → Option Match
both a b = pair_rule Inner (a ∷ b ∷ [])

both_none : (a : Option ℕ) → both a None ≡ None
both_none None = refl
both_none (Some i) = refl

both_right : (a b c : Option ℕ) → either (both a b) (both a c) ≡ both a (either b c)
both_right None b c = refl
both_right (Some i) None c = refl
both_right (Some i) (Some j) c = refl

both_left : (a b c : Option ℕ) → either (both a c) (both b c) ≡ both (either a b) c
both_left None b c = refl
both_left (Some i) b (Some k) = refl
both_left (Some i) b None = both_none b

-- the intersection of two ranges, and the two cases of `meet`
abbrev crossing : Piece ℕ → Piece ℕ → Piece Match
crossing x y = record { start = max x.start y.start; end = min x.end y.end; value = (Some x.value, Some y.value) }

meet_cases : (x y : Piece ℕ) (P : List (Piece Match) → Type 0) → (max x.start y.start ≤ min x.end y.end → P (crossing x y ∷ [])) → P [] → P (meet x y)
meet_cases x y P some-point no-point = go (leb (max x.start y.start) (min x.end y.end)) refl
  where
    go : (t : Bool) → leb (max x.start y.start) (min x.end y.end) ≡ t → P (cond t (crossing x y ∷ []) [])
    go true e = some-point (leb-true (max x.start y.start) (min x.end y.end) e)
    go false e = no-point

-- what a point has
module _ (p : ℕ) where
  meet_at : (x y : Piece ℕ) → at (meet x y) p ≡ both (at (x ∷ []) p) (at (y ∷ []) p)
  meet_at x y = go (le_or_lt x.start p) (le_or_lt p x.end) (le_or_lt y.start p) (le_or_lt p y.end)
    where
      out : at (crossing x y ∷ []) p ≡ None → at (meet x y) p ≡ None
      out h = meet_cases x y (λ zs. at zs p ≡ None) (λ m. h) refl

      go : (x.start ≤ p) ⊎ (p < x.start) → (p ≤ x.end) ⊎ (x.end < p) → (y.start ≤ p) ⊎ (p < y.start) → (p ≤ y.end) ⊎ (y.end < p) → at (meet x y) p ≡ both (at (x ∷ []) p) (at (y ∷ []) p)
      go (inl a) (inl b) (inl c) (inl d) = rw (at_in x [] p a b, at_in y [] p c d, le-leb (crossing x y).start (crossing x y).end (omega arith)) (at_in (crossing x y) [] p (omega arith) (omega arith))
      go (inl a) (inl b) (inl c) (inr d) = rw (at_in x [] p a b, at_after y [] p d) (out (at_after (crossing x y) [] p (omega arith)))
      go (inl a) (inl b) (inr c) d = rw (at_in x [] p a b, at_before y [] p c) (out (at_before (crossing x y) [] p (omega arith)))
      go (inl a) (inr b) c d = rw (at_after x [] p b) (out (at_after (crossing x y) [] p (omega arith)))
      go (inr a) b c d = rw (at_before x [] p a) (out (at_before (crossing x y) [] p (omega arith)))

  meet_all_at : (x : Piece ℕ) (ys : List (Piece ℕ)) → at (meet_all x ys) p ≡ both (at (x ∷ []) p) (at ys p)
  meet_all_at x [] = sym (both_none (at (x ∷ []) p))
  meet_all_at x (y ∷ ys) =
      at_append (meet x y) (meet_all x ys) p
      ∙ ap₂ either (meet_at x y) (meet_all_at x ys)
      ∙ both_right (at (x ∷ []) p) (at (y ∷ []) p) (at ys p)
      ∙ ap (both (at (x ∷ []) p)) (sym (at_append (y ∷ []) ys p))

  meets_at : (xs ys : List (Piece ℕ)) → at (meets xs ys) p ≡ both (at xs p) (at ys p)
  meets_at [] ys = refl
  meets_at (x ∷ xs) ys =
      at_append (meet_all x ys) (meets xs ys) p
      ∙ ap₂ either (meet_all_at x ys) (meets_at xs ys)
      ∙ both_left (at (x ∷ []) p) (at xs p) (at ys p)
      ∙ ap (λ o. both o (at ys p)) (sym (at_append (x ∷ []) xs p))

meet_all_within : (b c n : ℕ) (x : Piece ℕ) (ys : List (Piece ℕ)) → Within c n ys → b ≤ max x.start c → b ≤ x.end + 1 → Within b (x.end + 1) (meet_all x ys)
meet_all_within b c n x [] w h k = k
meet_all_within b c n x (y ∷ ys) w h k =
    meet_cases x y (λ zs. Within b (x.end + 1) (zs ++ meet_all x ys))
    (λ m. (omega arith, m, meet_all_within (min x.end y.end + 1) (y.end + 1) n x ys w.2 (omega arith) (omega arith)))
    (meet_all_within b (y.end + 1) n x ys w.2 (omega arith) k)

-- all ascending
pub meets_within : (b c n : ℕ) (xs ys : List (Piece ℕ)) → Within b n xs → Within c n ys → Within b n (meets xs ys)
meets_within b c n [] ys u w = u
meets_within b c n (x ∷ xs) ys u w = within_append b (x.end + 1) n (meet_all x ys) (meets xs ys) (meet_all_within b c n x ys w (omega arith) (omega arith)) (meets_within (x.end + 1) c n xs ys u.2 w)

module _ (P : Match → Type 0) where
  each_meet_all : (x : Piece ℕ) (ys : List (Piece ℕ)) → Each (λ v. P (Some x.value, Some v)) ys → Each P (meet_all x ys)
  each_meet_all x [] e = tt
  each_meet_all x (y ∷ ys) e = let rest = each_meet_all x ys e.1 in meet_cases x y (λ zs. Each P (zs ++ meet_all x ys)) (λ m. (e.0, rest)) rest

  each_meets : (xs ys : List (Piece ℕ)) → Each (λ u. Each (λ v. P (Some u, Some v)) ys) xs → Each P (meets xs ys)
  each_meets [] ys e = tt
  each_meets (x ∷ xs) ys e = each_append P (meet_all x ys) (meets xs ys) (each_meet_all x ys e.0) (each_meets xs ys e.1)

distinct_meet_all : (x : Piece ℕ) (ys : List (Piece ℕ)) → Distinct ys → Distinct (meet_all x ys)
distinct_meet_all x [] d = tt
distinct_meet_all x (y ∷ ys) d =
    let rest = distinct_meet_all x ys d.1 in
    let apart = each_meet_all (λ m. (crossing x y).value ≢ m) x ys (each_map (λ v g q. g (let r : Some y.value ≡ Some v = λ i. (q i).1 in cc)) ys d.0) in
    meet_cases x y (λ zs. Distinct (zs ++ meet_all x ys)) (λ m. (apart, rest)) rest

distinct_meets : (xs ys : List (Piece ℕ)) → Distinct xs → Distinct ys → Distinct (meets xs ys)
distinct_meets [] ys d f = tt
distinct_meets (x ∷ xs) ys d f = distinct_append (meet_all x ys) (meets xs ys) (distinct_meet_all x ys f) (distinct_meets xs ys d.1 f) (each_meet_all (λ m. Each (λ o. m ≢ o) (meets xs ys)) x ys (each_any other ys))
  where
    other : (v : ℕ) → Each (λ o. (Some x.value, Some v) ≢ o) (meets xs ys)
    other v = each_meets (λ o. (Some x.value, Some v) ≢ o) xs ys (each_map (λ u g. each_any (λ t q. g (let r : Some x.value ≡ Some u = λ i. (q i).0 in cc)) ys) xs d.0)

-- one piece for every left range and right range that share a point
pub paired_inner : (n : ℕ) (l r : List (Piece ℕ)) → WellFormed n l → WellFormed n r → Distinct l → Distinct r → paired Inner n (l ∷ r ∷ []) ≡ meets l r
paired_inner n l r u w d f = sym (paired_only Inner n l r u w (meets l r) (record { canonical = (meets_within 0 0 n l r u w, distinct_differ (meets l r) (distinct_meets l r d f)); agrees = λ p h. meets_at p l r }))

-- lists as they are lent
module _ (s e : ℕ → ℕ) where
  abbrev pub places : ℕ → ℕ → List (Piece ℕ)
  places = ranges s e (λ i. i)

  places_past : (k i m : ℕ) → k < i → Each (λ v. k ≢ v) (places i m)
  places_past k i zero h = tt
  places_past k i (suc m) h = (λ q. omega arith, places_past k (suc i) m (omega arith))

  pub places_distinct : (i m : ℕ) → Distinct (places i m)
  places_distinct i zero = tt
  places_distinct i (suc m) = (places_past i (suc i) m (omega arith), places_distinct (suc i) m)

  pub lent_inner : (n i m j k : ℕ) → WellFormed n (places i m) → WellFormed n (places j k) → paired Inner n (places i m ∷ places j k ∷ []) ≡ meets (places i m) (places j k)
  lent_inner n i m j k u w = paired_inner n (places i m) (places j k) u w (places_distinct i m) (places_distinct j k)
