-- The first piece of a pairing, taken off; two pairs of lists that agree; nothing left. Assumes nothing.
use Prim.Native.Nat.{ℕ, ◌+◌, ◌≤◌, ◌<◌}
use mathlib.Core.Path.{◌≡◌, refl, sym, ◌∙◌, ap}
use mathlib.Core.Logic.{◌⊎◌, inl, inr}
use mathlib.Core.Bool.{Bool, true, false, cond}
use Rattle.std.specs.declared.option.Option.{Option}
use Rattle.std.specs.declared.option.Option.TheVariants.{None, Some}
use mathlib.Core.List.{List, [], ◌∷◌}
use native.Mathlib.Omega.{arith}
use Rattle.rules.specs.Piece.{Piece, at, Within, Apart}
use Rattle.rules.specs.TwoWay.{Match, keeps, paired}
use Rattle.rules.specs.Proving.Below.{Below}
use Rattle.rules.specs.declared.Pairing.{Pairing}
use Rattle.rules.specs.declared.Pairing.TheVariants.{Inner, Left, Full}
use Rattle.rules.proofs.At.{at_in, at_before, at_after, at_late, le_or_lt}
use Rattle.std.proofs.lemmas.Option.{none-some}
use Rattle.rules.proofs.TwoWay.{paired_cut, paired_only}

module _ {A : Type 0} where
  -- a list that has nothing before c starts there or later
  within_from : (b c n : ℕ) (xs : List (Piece A)) → Within b n xs → ((q : ℕ) → q < c → at xs q ≡ None) → c ≤ n → Within c n xs
  within_from b c n [] w g h = h
  within_from b c n (x ∷ xs) w g h = (go (le_or_lt c x.start), w.1, w.2)
    where
      go : (c ≤ x.start) ⊎ (x.start < c) → c ≤ x.start
      go (inl l) = l
      go (inr l) = absurd (none-some x.value (sym (g x.start l) ∙ at_in x xs x.start (omega arith) w.1))

  apart_from : (b n c : ℕ) (v : A) (xs : List (Piece A)) → Within b n xs → (at xs c ≡ Some v → ⊥) → Apart c v xs
  apart_from b n c v [] w g = tt
  apart_from b n c v (x ∷ xs) w g = λ e k. g (let i = at_in x xs c (omega arith) (omega arith) in cc)

-- f says v from p to q and nothing before p, and g is what f says past q
pub record Peels {B : Type 0} (n p q : ℕ) (v : B) (f g : ℕ → Option B) : Type 0 where
  pub order : p ≤ q
  pub below : q < n
  pub early : (z : ℕ) → z < p → f z ≡ None
  pub on : (z : ℕ) → p ≤ z → z ≤ q → f z ≡ Some v
  pub edge : f (q + 1) ≡ Some v → ⊥
  pub gone : (z : ℕ) → z ≤ q → g z ≡ None
  pub kept : (z : ℕ) → q < z → g z ≡ f z

module _ {B : Type 0} (n p q : ℕ) (v : B) (f g : ℕ → Option B) (s : Peels n p q v f g) (ys : List (Piece B)) (b : Below n ys g) where
  abbrev piece : Piece B
  piece = record { start = p; end = q; value = v }

  peel_edge : at ys (q + 1) ≡ Some v → ⊥
  peel_edge e = go (le_or_lt n (q + 1))
    where
      go : (n ≤ q + 1) ⊎ (q + 1 < n) → ⊥
      go (inl m) = none-some v (sym (at_late 0 n ys b.canonical.0 (q + 1) m) ∙ e)
      go (inr m) = s.edge (sym (s.kept (q + 1) (omega arith)) ∙ sym (b.agrees (q + 1) m) ∙ e)

  peel_at : (z : ℕ) → z < n → at (piece ∷ ys) z ≡ f z
  peel_at z m = go (le_or_lt p z) (le_or_lt z q)
    where
      go : (p ≤ z) ⊎ (z < p) → (z ≤ q) ⊎ (q < z) → at (piece ∷ ys) z ≡ f z
      go (inr l) k = at_before piece ys z l ∙ b.agrees z m ∙ s.gone z (omega (arith, s.order)) ∙ sym (s.early z l)
      go (inl l) (inl k) = at_in piece ys z l k ∙ sym (s.on z l k)
      go (inl l) (inr k) = at_after piece ys z k ∙ b.agrees z m ∙ s.kept z k

  peel_below : Below n (piece ∷ ys) f
  peel_below =
      let w = b.canonical.0 in
      record {
        canonical = ((omega arith, s.order, within_from 0 (q + 1) n ys w (λ z m. b.agrees z (omega (arith, s.below)) ∙ s.gone z (omega arith)) (omega (arith, s.below))), (apart_from 0 n (q + 1) v ys w peel_edge, b.canonical.1));
        agrees = peel_at;
      }

-- what an operation says of what two lists have
abbrev pub said : Pairing → Option ℕ → Option ℕ → Option Match
said o a b = cond (keeps o (a, b)) (Some (a, b)) None

-- only the places that are kept are said
pub said_back : (o : Pairing) (a b : Option ℕ) (m : Match) → said o a b ≡ Some m → (a ≡ m.0) × (b ≡ m.1)
said_back o a b m e = go (keeps o (a, b)) e
  where
    go : (t : Bool) → cond t (Some (a, b)) None ≡ Some m → (a ≡ m.0) × (b ≡ m.1)
    go true e = let k : ◌≡◌ {A = Match} (a, b) m = cc in (ap (λ (m : Match). m.0) k, ap (λ (m : Match). m.1) k)
    go false e = absurd (none-some m e)

-- nothing is said of what neither list has
pub said_nothing : (o : Pairing) → said o None None ≡ None
said_nothing Inner = refl
said_nothing Left = refl
said_nothing Full = refl

-- two lists over n points
module _ (o : Pairing) (n : ℕ) (l r : List (Piece ℕ)) (u : Within 0 n l) (w : Within 0 n r) where
  pub pair_none : ((z : ℕ) → said o (at l z) (at r z) ≡ None) → paired o n (l ∷ r ∷ []) ≡ []
  pair_none e = sym (paired_only o n l r u w [] (record { canonical = (omega arith, tt); agrees = λ p m. sym (e p) }))

  module _ (l' r' : List (Piece ℕ)) (u' : Within 0 n l') (w' : Within 0 n r') where
    rest : Below n (paired o n (l' ∷ r' ∷ [])) (λ z. said o (at l' z) (at r' z))
    rest = paired_cut o n l' r' u' w'

    pub pair_same : ((z : ℕ) → said o (at l' z) (at r' z) ≡ said o (at l z) (at r z)) → paired o n (l ∷ r ∷ []) ≡ paired o n (l' ∷ r' ∷ [])
    pair_same e = sym (paired_only o n l r u w _ (record { canonical = rest.canonical; agrees = λ p m. rest.agrees p m ∙ e p }))

    pub pair_peel : (p q : ℕ) (v : Match) → Peels n p q v (λ z. said o (at l z) (at r z)) (λ z. said o (at l' z) (at r' z)) → paired o n (l ∷ r ∷ []) ≡ record { start = p; end = q; value = v } ∷ paired o n (l' ∷ r' ∷ [])
    pair_peel p q v s = sym (paired_only o n l r u w _ (peel_below n p q v _ _ s _ rest))
