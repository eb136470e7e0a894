-- What is left of one list: where it begins, what a run takes off it, and where a run must end. Assumes nothing.
use Prim.Native.Nat.{ℕ, zero, suc, ◌+◌, ◌-◌, ◌≤◌, ◌<◌}
use mathlib.Core.Path.{◌≡◌, refl, sym, ◌∙◌}
use mathlib.Core.Logic.{◌⊎◌, inl, inr}
use mathlib.Core.Bool.{Bool, true, false, cond}
use Rattle.std.specs.declared.option.Option.{Option}
use Rattle.std.specs.declared.option.Option.TheVariants.{None, Some}
use mathlib.Core.List.{List, ◌∷◌}
use native.Mathlib.Omega.{arith}
use lib.ListN.{length}
use lib.Dec.{ltb}
use native.Mathlib.Numerals.{add-one}
use borrow.Author.Tests.{lt-ltb, le-ltb, ltb-true}
use Rattle.rules.specs.Piece.{Piece, at, Within}
use Rattle.rules.specs.Lists.{Width, keys, range, ranges}
use Rattle.rules.proofs.At.{at_in, at_before, at_after, at_early, within_le, le_or_lt}
use Rattle.rules.proofs.Columns.{ranges_done}
use Rattle.std.proofs.lemmas.Option.{none-some}
use Rattle.two_way.specs.Sides.{here, side, onward, past}
use Rattle.two_way.specs.Steps.{Before, Fresh}
use Rattle.two_way.specs.declared.Side.{Side}

module _ {P : Type 0} (w : Width P) (starts : List P) (e : ℕ → ℕ) (stop i : ℕ) where
  -- at the start of a range
  pub side_fresh : (c : Side) → Fresh w starts stop i c → side (keys w starts) e stop (here stop c) ≡ onward (keys w starts) e stop i
  side_fresh c f = go (le_or_lt stop i)
    where
      go : (stop ≤ i) ⊎ (i < stop) → side (keys w starts) e stop (here stop c) ≡ onward (keys w starts) e stop i
      go (inl h) = rw (le-ltb c.at stop (omega (arith, f.place))) (sym (ranges_done (keys w starts) e (λ j. j) i stop h))
      go (inr h) = let q : stop - i ≡ suc (stop - (i + 1)) = omega arith in rw (lt-ltb c.at stop (omega (arith, f.place)), f.place, f.from h, q, add-one)

  -- it is shorter than with the range before it
  pub fresh_less : {x : Side} {c : Option Side} → Some x ≡ c → i ≡ x.at + 1 → (r : Side) → Fresh w starts stop i r → length (side (keys w starts) e stop (here stop r)) < length (side (keys w starts) e stop c)
  fresh_less p q r f = rw (sym p, side_fresh r f, q) (omega arith)

pub here_before : (stop : ℕ) (c : Side) → Before stop (here stop c)
here_before stop c = go (ltb c.at stop) refl
  where
    go : (b : Bool) → ltb c.at stop ≡ b → Before stop (cond b (Some c) None)
    go true e = ltb-true c.at stop e
    go false e = tt

module _ (s e : ℕ → ℕ) (stop : ℕ) where
  -- the places rise
  at_ranges : (i n q k : ℕ) → at (ranges s e (λ j. j) i n) q ≡ Some k → i ≤ k
  at_ranges i zero q k h = absurd (none-some k h)
  at_ranges i (suc n) q k h = go (λ g. at_ranges (suc i) n q k g) (le_or_lt (s i) q) (le_or_lt q (e i))
    where
      x : Piece ℕ
      x = range s e (λ j. j) i

      xs : List (Piece ℕ)
      xs = ranges s e (λ j. j) (suc i) n

      go : (at xs q ≡ Some k → suc i ≤ k) → (s i ≤ q) ⊎ (q < s i) → (q ≤ e i) ⊎ (e i < q) → i ≤ k
      go more (inl l) (inl m) = let g : i ≡ k = let o = at_in x xs q l m in cc in omega arith
      go more (inl l) (inr m) = omega (arith, more (sym (at_after x xs q m) ∙ h))
      go more (inr l) m = omega (arith, more (sym (at_before x xs q l) ∙ h))

  -- a side that ascends
  module _ (n : ℕ) (c : Side) (w : Within 0 n (side s e stop (Some c))) where
    abbrev x : Piece ℕ
    x = record { start = c.start; end = e c.at; value = c.at }

    abbrev xs : List (Piece ℕ)
    xs = onward s e stop (c.at + 1)

    pub side_upto : e c.at + 1 ≤ n
    side_upto = within_le (e c.at + 1) n xs w.2

    pub side_from : Within c.start n (x ∷ xs)
    side_from = (omega arith, w.1, w.2)

    pub side_early : (z : ℕ) → z < c.start → at (x ∷ xs) z ≡ None
    side_early = at_early c.start n (x ∷ xs) side_from

    -- right after its end its place is not found again
    pub side_ends : at (x ∷ xs) (e c.at + 1) ≡ Some c.at → ⊥
    side_ends g = omega (arith, at_ranges (c.at + 1) (stop - (c.at + 1)) (e c.at + 1) c.at (sym (at_after x xs (e c.at + 1) (omega arith)) ∙ g))

  pub past_in : (i q : ℕ) → q < e i → past s e stop i q ≡ side s e stop (Some (record { at = i; start = q + 1 }))
  past_in i q h = rw (lt-ltb q (e i) h)

  pub past_end : (i q : ℕ) → e i ≤ q → past s e stop i q ≡ onward s e stop (i + 1)
  past_end i q h = rw (le-ltb q (e i) h)

-- from p to q the list l has o, and l' is what l has past q
pub record Run (n : ℕ) (l l' : List (Piece ℕ)) (p q : ℕ) (o : Option ℕ) : Type 0 where
  pub on : (z : ℕ) → p ≤ z → z ≤ q → at l z ≡ o
  pub within : Within (q + 1) n l'
  pub kept : (z : ℕ) → q < z → at l' z ≡ at l z

module _ (s e : ℕ → ℕ) (stop n p q : ℕ) where
  -- a side without a range has nothing up to q
  pub run_by : (c : Option Side) → Within (q + 1) n (side s e stop c) → Run n (side s e stop c) (side s e stop c) p q None
  run_by c w = record { on = λ z k m. at_early (q + 1) n (side s e stop c) w z (omega arith); within = w; kept = λ z k. refl }

  -- the side's range has the points from p to q
  module _ (c : Side) (w : Within 0 n (side s e stop (Some c))) (l : c.start ≤ p) (o : p ≤ q) (m : q ≤ e c.at) where
    abbrev i : ℕ
    i = c.at

    abbrev y : Piece ℕ
    y = record { start = q + 1; end = e i; value = i }

    abbrev ys : List (Piece ℕ)
    ys = onward s e stop (i + 1)

    past_run : (e i ≤ q) ⊎ (q < e i) → Within (q + 1) n (past s e stop i q) × ((z : ℕ) → q < z → at (past s e stop i q) z ≡ at (side s e stop (Some c)) z)
    past_run (inl k) =
        let g : e i + 1 ≡ q + 1 = omega arith in
        rw (past_end s e stop i q k) (rw g at w.2, λ z j. sym (at_after (x s e stop n c w) ys z (omega arith)))
    past_run (inr k) = rw (past_in s e stop i q k) ((omega arith, omega arith, w.2), kept)
      where
        kept : (z : ℕ) → q < z → at (y ∷ ys) z ≡ at (side s e stop (Some c)) z
        kept z j = go (le_or_lt z (e i))
          where
            go : (z ≤ e i) ⊎ (e i < z) → at (y ∷ ys) z ≡ at (side s e stop (Some c)) z
            go (inl g) = at_in y ys z (omega arith) g ∙ sym (at_in (x s e stop n c w) ys z (omega arith) g)
            go (inr g) = at_after y ys z g ∙ sym (at_after (x s e stop n c w) ys z g)

    pub run_in : Run n (side s e stop (Some c)) (past s e stop i q) p q (Some i)
    run_in = let r = past_run (le_or_lt (e i) q) in record { on = λ z k j. at_in (x s e stop n c w) ys z (omega arith) (omega arith); within = r.0; kept = r.1 }
