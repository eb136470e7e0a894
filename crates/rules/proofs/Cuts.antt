-- The cuts ascend and hold every edge, so what lists have at a point stays the same from a cut to the next. Assumes nothing.
use Prim.Native.Nat.{ℕ, ◌+◌, ◌≤◌, ◌<◌}
use mathlib.Core.Path.{◌≡◌, refl, sym, ◌∙◌}
use mathlib.Core.Logic.{◌⊎◌, inl, inr}
use mathlib.Core.Bool.{Bool, true, false, cond}
use Rattle.std.specs.declared.option.Option.TheVariants.{None}
use mathlib.Core.List.{List, [], ◌∷◌}
use native.Mathlib.Omega.{arith}
use lib.Dec.{ltb, eqb}
use borrow.Author.Tests.{ltb-true, ltb-false, eqb-true, eqb-false}
use Rattle.rules.specs.Piece.{Piece, at, column, Within, AllWellFormed}
use Rattle.rules.specs.Runs.{enter, edges, cuts, line}
use Rattle.rules.specs.Proving.Below.{nones}
use Rattle.rules.proofs.At.{within_le, at_in, at_before, at_after}

abbrev pub Rising : ℕ → List ℕ → Type 0
Rising c [] = Unit {0}
Rising c (d ∷ ds) = (c < d) × Rising d ds

abbrev pub Sorted : List ℕ → Type 0
Sorted [] = Unit {0}
Sorted (c ∷ cs) = Rising c cs

abbrev pub In : ℕ → List ℕ → Type 0
In k [] = ⊥
In k (c ∷ cs) = (k ≡ c) ⊎ In k cs

-- the last of c and the cuts after it
abbrev pub last : ℕ → List ℕ → ℕ
last c [] = c
last c (d ∷ ds) = last d ds

-- p is before the first cut, or not before the last
abbrev pub Outside : List ℕ → ℕ → Type 0
Outside [] p = Unit {0}
Outside (c ∷ cs) p = (p < c) ⊎ (last c cs ≤ p)

-- the three cases of `enter`
module _ (k c : ℕ) (cs : List ℕ) (P : List ℕ → Type 0) (less : k < c → P (k ∷ c ∷ cs)) (equal : k ≡ c → P (c ∷ cs)) (more : c < k → P (c ∷ enter k cs)) where
  enter_cases : P (enter k (c ∷ cs))
  enter_cases = go (ltb k c) (eqb k c) refl refl
    where
      go : (s t : Bool) → ltb k c ≡ s → eqb k c ≡ t → P (cond s (k ∷ c ∷ cs) (cond t (c ∷ cs) (c ∷ enter k cs)))
      go true t e u = less (ltb-true k c e)
      go false true e u = equal (eqb-true k c u)
      go false false e u = more (omega (arith, ltb-false k c e, eqb-false k c u))

enter_rising : (k c : ℕ) (cs : List ℕ) → Rising c cs → c < k → Rising c (enter k cs)
enter_rising k c [] r h = (h, tt)
enter_rising k c (d ∷ ds) r h = enter_cases k d ds (Rising c) (λ l. (h, (l, r.1))) (λ e. r) (λ l. (r.0, enter_rising k d ds r.1 l))

enter_sorted : (k : ℕ) (cs : List ℕ) → Sorted cs → Sorted (enter k cs)
enter_sorted k [] r = tt
enter_sorted k (c ∷ cs) r = enter_cases k c cs Sorted (λ l. (l, r)) (λ e. r) (λ l. enter_rising k c cs r l)

enter_in : (k : ℕ) (cs : List ℕ) → In k (enter k cs)
enter_in k [] = inl refl
enter_in k (c ∷ cs) = enter_cases k c cs (In k) (λ l. inl refl) (λ e. inl e) (λ l. inr (enter_in k cs))

enter_keeps : (k j : ℕ) (cs : List ℕ) → In j cs → In j (enter k cs)
enter_keeps k j [] i = inr i
enter_keeps k j (c ∷ cs) (inl e) = enter_cases k c cs (In j) (λ l. inr (inl e)) (λ q. inl e) (λ l. inl e)
enter_keeps k j (c ∷ cs) (inr i) = enter_cases k c cs (In j) (λ l. inr (inr i)) (λ q. inr i) (λ l. inr (enter_keeps k j cs i))

pub in_rising : (c k : ℕ) (cs : List ℕ) → Rising c cs → In k cs → c < k
in_rising c k [] r x'' = elim x'' [ ]
in_rising c k (d ∷ ds) r (inl e) = omega arith
in_rising c k (d ∷ ds) r (inr i) = omega (arith, in_rising d k ds r.1 i)

le_last : (c : ℕ) (cs : List ℕ) → Rising c cs → c ≤ last c cs
le_last c [] r = omega arith
le_last c (d ∷ ds) r = omega (arith, le_last d ds r.1)

in_last : (c k : ℕ) (cs : List ℕ) → Rising c cs → In k (c ∷ cs) → k ≤ last c cs
in_last c k [] r (inr i) = elim i [ ]
in_last c k [] r (inl e) = omega arith
in_last c k (d ∷ ds) r (inl e) = omega (arith, le_last d ds r.1)
in_last c k (d ∷ ds) r (inr i) = in_last d k ds r.1 i

abbrev pub Upto : ℕ → List ℕ → Type 0
Upto n [] = Unit {0}
Upto n (c ∷ cs) = (c ≤ n) × Upto n cs

enter_upto : (n k : ℕ) (cs : List ℕ) → k ≤ n → Upto n cs → Upto n (enter k cs)
enter_upto n k [] h u = (h, tt)
enter_upto n k (c ∷ cs) h u = enter_cases k c cs (Upto n) (λ l. (h, u)) (λ e. u) (λ l. (u.0, enter_upto n k cs h u.1))

pub last_upto : (n c : ℕ) (cs : List ℕ) → Upto n (c ∷ cs) → last c cs ≤ n
last_upto n c [] u = u.0
last_upto n c (d ∷ ds) u = last_upto n d ds u.1

module _ {A : Type 0} where
  -- of every edge of a list, and of lists
  abbrev pub Edges : (ℕ → Type 0) → List (Piece A) → Type 0
  Edges P [] = Unit {0}
  Edges P (x ∷ xs) = P x.start × P (x.end + 1) × Edges P xs

  abbrev pub AllEdges : (ℕ → Type 0) → List (List (Piece A)) → Type 0
  AllEdges P [] = Unit {0}
  AllEdges P (l ∷ ls) = Edges P l × AllEdges P ls

  map_edges : {P Q : ℕ → Type 0} → ((k : ℕ) → P k → Q k) → (l : List (Piece A)) → Edges P l → Edges Q l
  map_edges g [] e = tt
  map_edges g (x ∷ xs) e = (g x.start e.0, g (x.end + 1) e.1, map_edges g xs e.2)

  pub map_all : {P Q : ℕ → Type 0} → ((k : ℕ) → P k → Q k) → (ls : List (List (Piece A))) → AllEdges P ls → AllEdges Q ls
  map_all g [] e = tt
  map_all g (l ∷ ls) e = (map_edges g l e.0, map_all g ls e.1)

  -- both edges of x go in
  edge_keeps : (x : Piece A) (j : ℕ) (cs : List ℕ) → In j cs → In j (enter x.start (enter (x.end + 1) cs))
  edge_keeps x j cs i = enter_keeps x.start j (enter (x.end + 1) cs) (enter_keeps (x.end + 1) j cs i)

  edges_in : (l : List (Piece A)) (cs : List ℕ) → Edges (λ k. In k (edges l cs)) l
  edges_in [] cs = tt
  edges_in (x ∷ xs) cs =
      let ds = edges xs cs in
      let es = enter (x.end + 1) ds in
      (enter_in x.start es, enter_keeps x.start (x.end + 1) es (enter_in (x.end + 1) ds), map_edges (λ k i. edge_keeps x k ds i) xs (edges_in xs cs))

  edges_sorted : (l : List (Piece A)) (cs : List ℕ) → Sorted cs → Sorted (edges l cs)
  edges_sorted [] cs s = s
  edges_sorted (x ∷ xs) cs s = enter_sorted x.start (enter (x.end + 1) (edges xs cs)) (enter_sorted (x.end + 1) (edges xs cs) (edges_sorted xs cs s))

  edges_keep : (j : ℕ) (l : List (Piece A)) (cs : List ℕ) → In j cs → In j (edges l cs)
  edges_keep j [] cs i = i
  edges_keep j (x ∷ xs) cs i = edge_keeps x j (edges xs cs) (edges_keep j xs cs i)

  edges_upto : (c n : ℕ) (l : List (Piece A)) (cs : List ℕ) → Within c n l → Upto n cs → Upto n (edges l cs)
  edges_upto c n [] cs w u = u
  edges_upto c n (x ∷ xs) cs w u =
      let h = within_le (x.end + 1) n xs w.2 in
      enter_upto n x.start (enter (x.end + 1) (edges xs cs)) (omega arith) (enter_upto n (x.end + 1) (edges xs cs) h (edges_upto (x.end + 1) n xs cs w.2 u))

-- cs ascends up to n and holds every edge of ls
pub record Cutting {A : Type 0} (n : ℕ) (ls : List (List (Piece A))) (cs : List ℕ) : Type 0 where
  pub sorted : Sorted cs
  pub upto : Upto n cs
  pub has : AllEdges (λ k. In k cs) ls

module _ {A : Type 0} (n : ℕ) where
  pub cuts_cutting : (ls : List (List (Piece A))) → AllWellFormed n ls → Cutting n ls (cuts ls)
  unfolding cuts
  cuts_cutting [] w = record { sorted = tt; upto = tt; has = tt }
  cuts_cutting (l ∷ ls) w =
      let rest = cuts_cutting ls w.1 in
      record {
        sorted = edges_sorted l (cuts ls) rest.sorted;
        upto = edges_upto 0 n l (cuts ls) w.0 rest.upto;
        has = (edges_in l (cuts ls), map_all (λ k i. edges_keep k l (cuts ls) i) ls rest.has);
      }

  module _ (ls : List (List (Piece A))) (w : AllWellFormed n ls) where
    pub line_cutting : Cutting n ls (line n ls)
    unfolding line
    line_cutting =
        let rest = cuts_cutting ls w in
        let cs = enter n (cuts ls) in
        record {
          sorted = enter_sorted 0 cs (enter_sorted n (cuts ls) rest.sorted);
          upto = enter_upto n 0 cs (omega arith) (enter_upto n n (cuts ls) (omega arith) rest.upto);
          has = map_all (λ k i. enter_keeps 0 k cs (enter_keeps n k (cuts ls) i)) ls rest.has;
        }

    -- no point of the line is outside its cuts
    pub line_whole : (p : ℕ) → p < n → Outside (line n ls) p → ⊥
    unfolding line
    line_whole p h = go (line n ls) line_cutting.sorted (enter_in 0 (enter n (cuts ls))) (enter_keeps 0 n (enter n (cuts ls)) (enter_in n (cuts ls)))
      where
        go : (cs : List ℕ) → Sorted cs → In 0 cs → In n cs → Outside cs p → ⊥
        go [] s low high _ = elim low [ ]
        go (c ∷ cs) s (inl q) high (inl l) = omega arith
        go (c ∷ cs) s (inr i) high (inl l) = omega (arith, in_rising c 0 cs s i)
        go (c ∷ cs) s low high (inr l) = omega (arith, in_last c n cs s high)

module _ {A : Type 0} where
  -- no edge lies past c and before d
  at_steady : (c d p : ℕ) → c ≤ p → p < d → (l : List (Piece A)) → Edges (λ k. (k ≤ c) ⊎ (d ≤ k)) l → at l p ≡ at l c
  at_steady c d p h m [] e = refl
  at_steady c d p h m (x ∷ xs) e = go (at_steady c d p h m xs e.2) e.0 e.1
    where
      go : at xs p ≡ at xs c → (x.start ≤ c) ⊎ (d ≤ x.start) → (x.end + 1 ≤ c) ⊎ (d ≤ x.end + 1) → at (x ∷ xs) p ≡ at (x ∷ xs) c
      go rest (inr s) t = at_before x xs p (omega arith) ∙ rest ∙ sym (at_before x xs c (omega arith))
      go rest (inl s) (inl t) = at_after x xs p (omega arith) ∙ rest ∙ sym (at_after x xs c (omega arith))
      go rest (inl s) (inr t) = at_in x xs p (omega arith) (omega arith) ∙ sym (at_in x xs c s (omega arith))

  pub column_steady : (c d p : ℕ) → c ≤ p → p < d → (ls : List (List (Piece A))) → AllEdges (λ k. (k ≤ c) ⊎ (d ≤ k)) ls → column ls p ≡ column ls c
  column_steady c d p h m [] e = refl
  column_steady c d p h m (l ∷ ls) e = λ i. at_steady c d p h m l e.0 i ∷ column_steady c d p h m ls e.1 i

  -- every edge is on one side of p
  at_aside : (p : ℕ) (l : List (Piece A)) → Edges (λ k. p < k) l ⊎ Edges (λ k. k ≤ p) l → at l p ≡ None
  at_aside p [] e = refl
  at_aside p (x ∷ xs) (inl e) = at_before x xs p e.0 ∙ at_aside p xs (inl e.2)
  at_aside p (x ∷ xs) (inr e) = at_after x xs p (omega arith) ∙ at_aside p xs (inr e.2)

  column_aside : (p : ℕ) (ls : List (List (Piece A))) → AllEdges (λ k. p < k) ls ⊎ AllEdges (λ k. k ≤ p) ls → column ls p ≡ nones ls
  column_aside p [] e = refl
  column_aside p (l ∷ ls) (inl e) = λ i. at_aside p l (inl e.0) i ∷ column_aside p ls (inl e.1) i
  column_aside p (l ∷ ls) (inr e) = λ i. at_aside p l (inr e.0) i ∷ column_aside p ls (inr e.1) i

  -- before the first cut, and from the last on, no list has a piece
  pub column_outside : (n : ℕ) (ls : List (List (Piece A))) (cs : List ℕ) → Cutting n ls cs → (p : ℕ) → Outside cs p → column ls p ≡ nones ls
  column_outside n ls [] t p o = column_aside p ls (inl (map_all (λ k i. absurd i) ls t.has))
  column_outside n ls (c ∷ cs) t p (inl h) = column_aside p ls (inl (map_all high ls t.has))
    where
      high : (k : ℕ) → (k ≡ c) ⊎ In k cs → p < k
      high k (inl q) = omega arith
      high k (inr i) = omega (arith, in_rising c k cs t.sorted i)
  column_outside n ls (c ∷ cs) t p (inr h) = column_aside p ls (inr (map_all (λ k i. omega (arith, in_last c k cs t.sorted i)) ls t.has))
