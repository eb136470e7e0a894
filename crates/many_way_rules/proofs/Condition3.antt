-- Condition 3, of any rule: ascending pieces that hold exactly the points the rule admits, each with the rule's value, and touching pieces differ. So two rules give the same list exactly when they agree at every point, however the lists were cut up. Assumes nothing.
use Prim.Native.Nat.{ℕ, ◌+◌, ◌≤◌, ◌<◌}
use mathlib.Core.Path.{◌≡◌, sym, ◌∙◌, ap}
use mathlib.Core.Logic.{◌⊎◌, inl, inr, ◌↔◌}
use mathlib.Core.Bool.{Bool}
use Rattle.std.specs.declared.option.Option.{Option}
use mathlib.Core.List.{List, [], ◌∷◌, ◌++◌}
use native.Mathlib.Omega.{arith}
use Rattle.rules.specs.Piece.{Piece, Range, at, column, Within, Differ, AllWellFormed}
use Rattle.rules.specs.Same.{eq_ℤ, Decides}
use Rattle.rules.specs.Runs.{runs}
use Rattle.many_way_rules.specs.Operations.{rule_of, merged}
use Rattle.many_way_rules.specs.declared.Operation.{Operation}
use Rattle.rules.proofs.At.{at_in, at_before, at_after, at_tail, le_or_lt}
use Rattle.rules.proofs.Runs.{runs_below, runs_only, runs_same}
use Rattle.rules.proofs.Same.{decides_ℤ}

-- xs is what a rule says of some lists over a line of n points
pub record Right {A B : Type 0} (n : ℕ) (rule : List (Option A) → Option B) (ls : List (List (Piece A))) (xs : List (Piece B)) : Type 0 where
  pub ascending : Within 0 n xs
  pub points : (p : ℕ) → p < n → at xs p ≡ rule (column ls p)
  pub touching : Differ xs

-- over any values of which a test decides whether two are equal
module _ {A B : Type 0} (test : B → B → Bool) (law : Decides test) (n : ℕ) (rule : List (Option A) → Option B) (ls : List (List (Piece A))) (wf : AllWellFormed n ls) where
  pub right : Right n rule ls (runs test rule n ls)
  right = let b = runs_below test law rule n ls wf in record { ascending = b.canonical.0; points = b.agrees; touching = b.canonical.1 }

  -- and no other list is
  pub only : (xs : List (Piece B)) → Right n rule ls xs → xs ≡ runs test rule n ls
  only xs r = runs_only test law rule n ls wf xs (record { canonical = (r.ascending, r.touching); agrees = r.points })

  -- whatever the two rules, lists, what the lists have and the numbers of lists
  pub same : {C : Type 0} (rule' : List (Option C) → Option B) (ls' : List (List (Piece C))) → AllWellFormed n ls' → (runs test rule n ls ≡ runs test rule' n ls') ↔ ((p : ℕ) → p < n → rule (column ls p) ≡ rule' (column ls' p))
  same rule' ls' wf' = runs_same test law n rule ls wf rule' ls' wf'

-- a range cut in two after its point m, the same value on both sides
module _ {A : Type 0} (x : Piece A) (m : ℕ) where
  abbrev pub head : Piece A
  head = record { start = x.start; end = m; value = x.value }

  abbrev pub tail : Piece A
  tail = record { start = m + 1; end = x.end; value = x.value }

  -- with the ranges after it
  abbrev pub halves : List (Piece A) → List (Piece A)
  halves ys = head ∷ tail ∷ ys

module _ {A : Type 0} (x : Piece A) (m : ℕ) (low : x.start ≤ m) (high : m < x.end) where
  halves_at : (ys : List (Piece A)) (p : ℕ) → at (halves x m ys) p ≡ at (x ∷ ys) p
  halves_at ys p = go (le_or_lt x.start p) (le_or_lt p m) (le_or_lt p x.end)
    where
      go : (x.start ≤ p) ⊎ (p < x.start) → (p ≤ m) ⊎ (m < p) → (p ≤ x.end) ⊎ (x.end < p) → at (halves x m ys) p ≡ at (x ∷ ys) p
      go (inr s) h e = at_before (head x m) (tail x m ∷ ys) p s ∙ at_before (tail x m) ys p (omega arith) ∙ sym (at_before x ys p s)
      go (inl s) (inl h) e = at_in (head x m) (tail x m ∷ ys) p s h ∙ sym (at_in x ys p s (omega arith))
      go (inl s) (inr h) (inl e) = at_after (head x m) (tail x m ∷ ys) p h ∙ at_in (tail x m) ys p (omega arith) e ∙ sym (at_in x ys p s e)
      go (inl s) (inr h) (inr e) = at_after (head x m) (tail x m ∷ ys) p h ∙ at_after (tail x m) ys p e ∙ sym (at_after x ys p e)

  module _ (ys : List (Piece A)) where
    cut_at : (xs : List (Piece A)) (p : ℕ) → at (xs ++ halves x m ys) p ≡ at (xs ++ x ∷ ys) p
    cut_at [] p = halves_at ys p
    cut_at (z ∷ zs) p = at_tail z (zs ++ halves x m ys) (zs ++ x ∷ ys) p (cut_at zs p)

    cut_within : (c n : ℕ) (xs : List (Piece A)) → Within c n (xs ++ x ∷ ys) → Within c n (xs ++ halves x m ys)
    cut_within c n [] w = (w.0, low, (omega arith, omega arith, w.2))
    cut_within c n (z ∷ zs) w = (w.0, w.1, cut_within (z.end + 1) n zs w.2)

    module _ (xs : List (Piece A)) (above : List (List (Piece A))) where
      cut_column : (below : List (List (Piece A))) (p : ℕ) → column (below ++ (xs ++ x ∷ ys) ∷ above) p ≡ column (below ++ (xs ++ halves x m ys) ∷ above) p
      cut_column [] p = ap (λ a. a ∷ column above p) (sym (cut_at xs p))
      cut_column (l ∷ ls) p = ap (λ r. at l p ∷ r) (cut_column ls p)

      cut_formed : (n : ℕ) (below : List (List (Piece A))) → AllWellFormed n (below ++ (xs ++ x ∷ ys) ∷ above) → AllWellFormed n (below ++ (xs ++ halves x m ys) ∷ above)
      cut_formed n [] w = (cut_within 0 n xs w.0, w.1)
      cut_formed n (l ∷ ls) w = (w.0, cut_formed n ls w.1)

      -- the list that is cut stands above some lists and below others; its range x stands between xs and ys
      pub cut : {B : Type 0} (test : B → B → Bool) → Decides test → (n : ℕ) (rule : List (Option A) → Option B) (below : List (List (Piece A))) → AllWellFormed n (below ++ (xs ++ x ∷ ys) ∷ above) → runs test rule n (below ++ (xs ++ x ∷ ys) ∷ above) ≡ runs test rule n (below ++ (xs ++ halves x m ys) ∷ above)
      cut test law n rule below wf = (same test law n rule _ wf rule _ (cut_formed n below wf)).1 (λ p h. ap rule (cut_column below p))

-- many-way joins and selections
module _ (n : ℕ) (o : Operation) (ls : List (List Range)) (wf : AllWellFormed n ls) where
  pub merged_right : Right n (rule_of o) ls (merged o n ls)
  unfolding merged
  merged_right = right eq_ℤ decides_ℤ n (rule_of o) ls wf

  pub merged_only : (xs : List Range) → Right n (rule_of o) ls xs → xs ≡ merged o n ls
  unfolding merged
  merged_only = only eq_ℤ decides_ℤ n (rule_of o) ls wf

  pub merged_same : (o' : Operation) (ls' : List (List Range)) → AllWellFormed n ls' → (merged o n ls ≡ merged o' n ls') ↔ ((p : ℕ) → p < n → rule_of o (column ls p) ≡ rule_of o' (column ls' p))
  unfolding merged
  merged_same o' = same eq_ℤ decides_ℤ n (rule_of o) ls wf (rule_of o')

module _ (x : Range) (m : ℕ) (low : x.start ≤ m) (high : m < x.end) (xs ys : List Range) (below above : List (List Range)) where
  pub merged_cut : (n : ℕ) (o : Operation) → AllWellFormed n (below ++ (xs ++ x ∷ ys) ∷ above) → merged o n (below ++ (xs ++ x ∷ ys) ∷ above) ≡ merged o n (below ++ (xs ++ halves x m ys) ∷ above)
  unfolding merged
  merged_cut n o = cut x m low high ys xs above eq_ℤ decides_ℤ n (rule_of o) below
