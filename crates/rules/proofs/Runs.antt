-- The runs of a rule: canonical below n, with the rule's value at each point below n, and the only such list. Assumes nothing.
use Prim.Native.Nat.{ℕ, ◌≤◌, ◌<◌}
use mathlib.Core.Path.{◌≡◌, refl, sym, ◌∙◌, ap}
use mathlib.Core.Logic.{◌⊎◌, inl, inr, ◌↔◌}
use mathlib.Core.Bool.{Bool}
use Rattle.std.specs.declared.option.Option.{Option}
use Rattle.std.specs.declared.option.Option.TheVariants.{None, Some}
use mathlib.Core.List.{List, [], ◌∷◌}
use native.Mathlib.Omega.{arith}
use Rattle.rules.specs.Piece.{Piece, at, AllWellFormed}
use Rattle.rules.specs.Same.{Decides}
use Rattle.rules.specs.Runs.{cuts, line, extend, fill, pieces, says, runs}
use Rattle.rules.specs.Proving.Below.{nones, Below}
use Rattle.rules.proofs.Cuts.{Rising, In, Outside, last, in_rising, last_upto, AllEdges, map_all, Cutting, cuts_cutting, line_cutting, line_whole, column_steady, column_outside}
use Rattle.rules.proofs.Push.{push_below, skip_below, below_only}

module _ {B : Type 0} (same : B → B → Bool) (law : Decides same) (f : ℕ → Option B) where
  pub extend_below : (c d : ℕ) (xs : List (Piece B)) → Below c xs f → c < d → ((p : ℕ) → c ≤ p → p < d → f p ≡ f c) → Below d (extend same (f c) c d xs) f
  extend_below c d xs b h k = go (f c) refl
    where
      go : (o : Option B) → f c ≡ o → Below d (extend same o c d xs) f
      go None e = skip_below c d xs f b (omega arith) (λ p m l. k p m l ∙ e)
      go (Some v) e = push_below same law c d v xs f b h (λ p m l. k p m l ∙ e)

pub nothing_below : {B : Type 0} (f : ℕ → Option B) → Below 0 [] f
nothing_below f = record { canonical = (omega arith, tt); agrees = λ p h. absurd (omega arith) }

module _ {A B : Type 0} (same : B → B → Bool) (law : Decides same) (rule : List (Option A) → Option B) (n : ℕ) (ls : List (List (Piece A))) where
  fill_below : (c : ℕ) (ds : List ℕ) (xs : List (Piece B)) → Rising c ds → AllEdges (λ k. (k ≤ c) ⊎ In k ds) ls → Below c xs (says rule ls) → Below (last c ds) (fill same (says rule ls) c ds xs) (says rule ls)
  fill_below c [] xs r e b = b
  fill_below c (d ∷ ds) xs r e b = fill_below d ds (extend same (says rule ls c) c d xs) r.1 (map_all next ls e) (extend_below same law (says rule ls) c d xs b r.0 steady)
    where
      out : (k : ℕ) → (k ≤ c) ⊎ In k (d ∷ ds) → (k ≤ c) ⊎ (d ≤ k)
      out k (inl l) = inl l
      out k (inr (inl q)) = inr (omega arith)
      out k (inr (inr i)) = inr (omega (arith, in_rising d k ds r.1 i))

      next : (k : ℕ) → (k ≤ c) ⊎ In k (d ∷ ds) → (k ≤ d) ⊎ In k ds
      next k (inl l) = inl (omega arith)
      next k (inr (inl q)) = inl (omega arith)
      next k (inr (inr i)) = inr i

      steady : (p : ℕ) → c ≤ p → p < d → says rule ls p ≡ says rule ls c
      steady p h m = ap rule (column_steady c d p h m ls (map_all out ls e))

  -- cuts outside which the rule admits nothing
  pieces_below : (cs : List ℕ) → Cutting n ls cs → ((p : ℕ) → p < n → Outside cs p → says rule ls p ≡ None) → Below n (pieces same (says rule ls) cs) (says rule ls)
  unfolding pieces
  pieces_below [] t out = skip_below 0 n [] (says rule ls) (nothing_below (says rule ls)) (omega arith) (λ p h m. out p m tt)
  pieces_below (c ∷ cs) t out =
      let f = says rule ls in
      let u = last_upto n c cs t.upto in
      let low = skip_below 0 c [] f (nothing_below f) (omega arith) (λ p h m. out p (omega (arith, t.upto.0)) (inl m)) in
      skip_below (last c cs) n (fill same f c cs []) f (fill_below c cs [] t.sorted (map_all split ls t.has) low) u (λ p h m. out p m (inr h))
    where
      split : (k : ℕ) → (k ≡ c) ⊎ In k cs → (k ≤ c) ⊎ In k cs
      split k (inl q) = inl (omega arith)
      split k (inr i) = inr i

  module _ (wf : AllWellFormed n ls) where
    pub runs_below : Below n (runs same rule n ls) (says rule ls)
    unfolding runs
    runs_below = pieces_below (line n ls) (line_cutting n ls wf) (λ p h o. absurd (line_whole n ls wf p h o))

    -- what says below n what the rule says is the runs
    pub runs_only : (xs : List (Piece B)) → Below n xs (says rule ls) → xs ≡ runs same rule n ls
    runs_only xs b = below_only n xs (runs same rule n ls) (says rule ls) b runs_below

    -- where the rule admits no point without a range, the cuts at the line's ends change nothing
    pub runs_cuts : rule (nones ls) ≡ None → pieces same (says rule ls) (cuts ls) ≡ runs same rule n ls
    runs_cuts q = runs_only (pieces same (says rule ls) (cuts ls)) (pieces_below (cuts ls) t (λ p h o. ap rule (column_outside n ls (cuts ls) t p o) ∙ q))
      where
        t : Cutting n ls (cuts ls)
        t = cuts_cutting n ls wf

-- two rules over two sets of lists give the same runs exactly when they agree at every point
module _ {A C B : Type 0} (same : B → B → Bool) (law : Decides same) (n : ℕ) (rule : List (Option A) → Option B) (ls : List (List (Piece A))) (wf : AllWellFormed n ls) (rule' : List (Option C) → Option B) (ls' : List (List (Piece C))) (wf' : AllWellFormed n ls') where
  pub runs_same : (runs same rule n ls ≡ runs same rule' n ls') ↔ ((p : ℕ) → p < n → says rule ls p ≡ says rule' ls' p)
  runs_same = (there, back)
    where
      b : Below n (runs same rule n ls) (says rule ls)
      b = runs_below same law rule n ls wf

      there : runs same rule n ls ≡ runs same rule' n ls' → (p : ℕ) → p < n → says rule ls p ≡ says rule' ls' p
      there e p h = sym (b.agrees p h) ∙ ap (λ xs. at xs p) e ∙ (runs_below same law rule' n ls' wf').agrees p h

      back : ((p : ℕ) → p < n → says rule ls p ≡ says rule' ls' p) → runs same rule n ls ≡ runs same rule' n ls'
      back agree = runs_only same law rule' n ls' wf' (runs same rule n ls) (record { canonical = b.canonical; agrees = λ p h. b.agrees p h ∙ agree p h })
