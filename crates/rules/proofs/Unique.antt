-- A canonical list is the only one with its values. Assumes nothing.
use Prim.Native.Nat.{ℕ, ◌+◌, ◌≤◌, ◌<◌}
use mathlib.Core.Path.{◌≡◌, refl, sym, ◌∙◌}
use mathlib.Core.Logic.{◌⊎◌, inl, inr}
use Rattle.std.specs.declared.option.Option.{Option}
use Rattle.std.specs.declared.option.Option.TheVariants.{None, Some}
use mathlib.Core.List.{List, [], ◌∷◌}
use native.Mathlib.Omega.{arith}
use Rattle.rules.specs.Piece.{Piece, at, Within, Apart, Differ, Canonical}
use Rattle.rules.proofs.At.{at_in, at_after, at_early, le_or_lt}

module _ {A : Type 0} where
  clash : {o : Option A} {v : A} → o ≡ Some v → o ≡ None → ⊥
  clash p q = let z : ◌≡◌ {A = ℕ} 0 1 = cc in omega arith

  -- the piece that ended at c is not carried on by the next
  stops : (c d : ℕ) (v : A) (xs : List (Piece A)) → Within c d xs → Apart c v xs → at xs c ≡ Some v → ⊥
  stops c d v [] w a e = clash e refl
  stops c d v (x ∷ xs) w a e = go (le_or_lt x.start c)
    where
      go : (x.start ≤ c) ⊎ (c < x.start) → ⊥
      go (inl h) = a (omega arith) (let i = at_in x xs c h (omega arith) in cc)
      go (inr h) = clash e (at_early x.start d (x ∷ xs) (omega arith, w.1, w.2) c h)

  module _ (x y : Piece A) (xs ys : List (Piece A)) (d e : ℕ) (u : Within x.start d (x ∷ xs)) (w : Within y.start e (y ∷ ys)) (same : (p : ℕ) → at (x ∷ xs) p ≡ at (y ∷ ys) p) where
    starts : y.start ≤ x.start
    starts = go (le_or_lt y.start x.start)
      where
        go : (y.start ≤ x.start) ⊎ (x.start < y.start) → y.start ≤ x.start
        go (inl h) = h
        go (inr h) = absurd (clash (at_in x xs x.start (omega arith) u.1) (same x.start ∙ at_early y.start e (y ∷ ys) w x.start h))

    values : x.start ≡ y.start → x.value ≡ y.value
    values s = let i = at_in x xs x.start (omega arith) u.1 in let j = at_in y ys x.start (omega arith) (omega arith) in let k = same x.start in cc

    ends : x.start ≡ y.start → x.value ≡ y.value → Apart (x.end + 1) x.value xs → y.end ≤ x.end
    ends s v a = go (le_or_lt y.end x.end)
      where
        go : (y.end ≤ x.end) ⊎ (x.end < y.end) → y.end ≤ x.end
        go (inl h) = h
        go (inr h) =
            let i = at_in y ys (x.end + 1) (omega arith) (omega arith) in
            let j = at_after x xs (x.end + 1) (omega arith) in
            let k = same (x.end + 1) in
            absurd (stops (x.end + 1) d x.value xs u.2 a (cc))

    tails : x.end ≡ y.end → (p : ℕ) → at xs p ≡ at ys p
    tails t p = go (le_or_lt p x.end)
      where
        go : (p ≤ x.end) ⊎ (x.end < p) → at xs p ≡ at ys p
        go (inl h) = at_early (x.end + 1) d xs u.2 p (omega arith) ∙ sym (at_early (y.end + 1) e ys w.2 p (omega arith))
        go (inr h) = sym (at_after x xs p h) ∙ same p ∙ at_after y ys p (omega arith)

  unique_from : (b c d e : ℕ) (xs ys : List (Piece A)) → Within b d xs → Differ xs → Within c e ys → Differ ys → ((p : ℕ) → at xs p ≡ at ys p) → xs ≡ ys
  unique_from b c d e [] [] u f w g same = refl
  unique_from b c d e [] (y ∷ ys) u f w g same = absurd (clash (at_in y ys y.start (omega arith) w.1) (sym (same y.start)))
  unique_from b c d e (x ∷ xs) [] u f w g same = absurd (clash (at_in x xs x.start (omega arith) u.1) (same x.start))
  unique_from b c d e (x ∷ xs) (y ∷ ys) u f w g same =
      let back : (p : ℕ) → at (y ∷ ys) p ≡ at (x ∷ xs) p = λ p. sym (same p) in
      let u' : Within x.start d (x ∷ xs) = (omega arith, u.1, u.2) in
      let w' : Within y.start e (y ∷ ys) = (omega arith, w.1, w.2) in
      let s : x.start ≡ y.start = omega (arith, starts x y xs ys d e u' w' same, starts y x ys xs e d w' u' back) in
      let v : x.value ≡ y.value = values x y xs ys d e u' w' same s in
      let t : x.end ≡ y.end = omega (arith, ends x y xs ys d e u' w' same s v f.0, ends y x ys xs e d w' u' back (sym s) (sym v) g.0) in
      let r : xs ≡ ys = unique_from (x.end + 1) (y.end + 1) d e xs ys u.2 f.1 w.2 g.1 (tails x y xs ys d e u' w' same t) in
      λ i. record { start = s i; end = t i; value = v i } ∷ r i

  pub unique : (m n : ℕ) (xs ys : List (Piece A)) → Canonical m xs → Canonical n ys → ((p : ℕ) → at xs p ≡ at ys p) → xs ≡ ys
  unique m n xs ys c k same = unique_from 0 0 m n xs ys c.0 c.1 k.0 k.1 same
