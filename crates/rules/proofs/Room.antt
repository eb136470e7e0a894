-- Room: n ranges give at most 2n - 1 pieces. Assumes nothing.
use Prim.Native.Nat.{ℕ, pred, ◌+◌, ◌*◌, ◌-◌, ◌≤◌}
use mathlib.Core.Path.{◌≡◌, refl, ap}
use mathlib.Core.Bool.{Bool, true, false, cond}
use Rattle.std.specs.declared.option.Option.{Option}
use Rattle.std.specs.declared.option.Option.TheVariants.{None, Some}
use mathlib.Core.List.{List, [], ◌∷◌}
use native.Mathlib.Omega.{arith}
use lib.Dec.{ltb, eqb}
use lib.ListN.{length}
use Rattle.rules.specs.Piece.{Piece, AllWellFormed}
use Rattle.rules.specs.Same.{Decides}
use Rattle.rules.specs.Runs.{enter, edges, cuts, line, attach, touch, push, extend, fill, pieces, says, runs}
use Rattle.rules.specs.declared.Pairing.{Pairing}
use Rattle.rules.specs.declared.Pairing.TheVariants.{Inner, Left, Full}
use Rattle.rules.specs.TwoWay.{same_match, pair_rule, paired}
use Rattle.rules.specs.Proving.Below.{nones, size}
use Rattle.rules.proofs.Runs.{runs_cuts}
use Rattle.rules.proofs.Same.{decides_match}

enter_count : (k : ℕ) (cs : List ℕ) → length (enter k cs) ≤ length cs + 1
enter_count k [] = omega arith
enter_count k (c ∷ cs) = go (enter_count k cs) (ltb k c) (eqb k c)
  where
    go : length (enter k cs) ≤ length cs + 1 → (s t : Bool) → length (cond s (k ∷ c ∷ cs) (cond t (c ∷ cs) (c ∷ enter k cs))) ≤ length (c ∷ cs) + 1
    go h true t = omega arith
    go h false true = omega arith
    go h false false = omega arith

module _ {A : Type 0} where
  edges_count : (l : List (Piece A)) (cs : List ℕ) → length (edges l cs) ≤ 2 * length l + length cs
  edges_count [] cs = omega arith
  edges_count (x ∷ xs) cs =
      let h = edges_count xs cs in
      let i = enter_count (x.end + 1) (edges xs cs) in
      let j = enter_count x.start (enter (x.end + 1) (edges xs cs)) in
      omega arith

  cuts_count : (ls : List (List (Piece A))) → length (cuts ls) ≤ 2 * size ls
  unfolding cuts
  cuts_count [] = omega arith
  cuts_count (l ∷ ls) = omega (arith, edges_count l (cuts ls), cuts_count ls)

  line_count : (n : ℕ) (ls : List (List (Piece A))) → length (line n ls) ≤ 2 * size ls + 2
  unfolding line
  line_count n ls = omega (arith, enter_count 0 (enter n (cuts ls)), enter_count n (cuts ls), cuts_count ls)

module _ {B : Type 0} (same : B → B → Bool) where
  push_count : (xs : List (Piece B)) (y : Piece B) → length (push same xs y) ≤ length xs + 1
  push_count [] y = omega arith
  push_count (x ∷ []) y = go (touch same x y)
    where
      go : (t : Bool) → length (attach same t x y) ≤ length (x ∷ []) + 1
      go true = omega arith
      go false = omega arith
  push_count (x ∷ z ∷ zs) y = omega (arith, push_count (z ∷ zs) y)

  extend_count : (o : Option B) (c d : ℕ) (xs : List (Piece B)) → length (extend same o c d xs) ≤ length xs + 1
  extend_count None c d xs = omega arith
  extend_count (Some v) c d xs = push_count xs _

  fill_count : (f : ℕ → Option B) (c : ℕ) (ds : List ℕ) (xs : List (Piece B)) → length (fill same f c ds xs) ≤ length xs + length ds
  fill_count f c [] xs = omega arith
  fill_count f c (d ∷ ds) xs = omega (arith, fill_count f d ds (extend same (f c) c d xs), extend_count (f c) c d xs)

  pieces_count : (f : ℕ → Option B) (cs : List ℕ) → length (pieces same f cs) ≤ pred (length cs)
  unfolding pieces
  pieces_count f [] = omega arith
  pieces_count f (c ∷ cs) = omega (arith, fill_count f c cs [])

  module _ {A : Type 0} (rule : List (Option A) → Option B) (n : ℕ) (ls : List (List (Piece A))) where
    -- whatever the rule admits
    pub runs_count : length (runs same rule n ls) ≤ 2 * size ls + 1
    unfolding runs
    runs_count = omega (arith, pieces_count (says rule ls) (line n ls), line_count n ls)

    -- where it admits no point without a range
    pub runs_room : Decides same → AllWellFormed n ls → rule (nones ls) ≡ None → length (runs same rule n ls) ≤ 2 * size ls - 1
    runs_room law wf q = omega (arith, ap length (runs_cuts same law rule n ls wf q), pieces_count (says rule ls) (cuts ls), cuts_count ls)

pub paired_room : (o : Pairing) (n : ℕ) (l r : List (Piece ℕ)) → AllWellFormed n (l ∷ r ∷ []) → length (paired o n (l ∷ r ∷ [])) ≤ 2 * size (l ∷ r ∷ []) - 1
unfolding paired
paired_room o n l r wf = runs_room same_match (pair_rule o) n (l ∷ r ∷ []) decides_match wf (go o)
  where
    go : (o : Pairing) → pair_rule o (None ∷ None ∷ []) ≡ None
    go Inner = refl
    go Left = refl
    go Full = refl
