-- What a walk over stretches keeps, for any value that can be told from others, any rule, any columns and any first place: the pieces that are done and those that wait say what the rule says up to the last stretch. Assumes nothing.
use Prim.Native.Nat.{ℕ, zero, suc, pred, ◌+◌, ◌-◌, ◌≤◌, ◌<◌, ◌^◌}
use mathlib.Core.Path.{◌≡◌, refl, sym, ap, ◌∙◌, subst}
use mathlib.Core.Logic.{◌⊎◌, inl, inr}
use mathlib.Core.Bool.{Bool, true, false}
use Rattle.std.specs.declared.option.Option.{Option}
use Rattle.std.specs.declared.option.Option.TheVariants.{None, Some}
use mathlib.Core.List.{List, [], ◌∷◌, ◌++◌, append_assoc, append-nil}
use native.Mathlib.Omega.{arith}
use native.Mathlib.Nat.{add-zero}
use lib.ListN.{length, length-append}
use Rattle.rules.specs.Piece.{Piece, Within, AllWellFormed}
use Rattle.rules.specs.Same.{Decides}
use Rattle.rules.specs.Runs.{attach, touch, push, extend, says, runs}
use Rattle.rules.specs.Answer.{least}
use Rattle.rules.specs.Proving.Below.{nones, Below}
use Rattle.rules.specs.Proving.Long.{Long}
use Rattle.rules.proofs.At.{le_or_lt, within_le, within_mono}
use Rattle.rules.proofs.Fronts.{same_room}
use Rattle.rules.proofs.Push.{push_past, skip_below}
use Rattle.rules.proofs.Runs.{extend_below, nothing_below, runs_only}
use Rattle.slots.specs.Stretch.{Stretch, NoStretch}
use Rattle.multiway_pass.specs.Pieces.{PushedOn}
use Rattle.multiway_pass.specs.Passes.{Puttable, lay_if, PutPieces}
use Rattle.multiway_pass.proofs.Columns.{Takes, if_nothing, if_append, if_keeps}

module _ {B : Type 0} (same : B → B → Bool) where
  -- the last piece alone takes part in a push
  push_last : (xs : List (Piece B)) (x : Piece B) (zs : List (Piece B)) (y : Piece B) → push same (xs ++ (x ∷ zs)) y ≡ xs ++ push same (x ∷ zs) y
  push_last [] x zs y = refl
  push_last (z ∷ []) x zs y = refl
  push_last (z ∷ w ∷ ws) x zs y = ap (λ l. z ∷ l) (push_last (w ∷ ws) x zs y)

  push_longer : (xs : List (Piece B)) (y : Piece B) → length xs ≤ length (push same xs y)
  push_longer [] y = omega arith
  push_longer (x ∷ []) y = go (touch same x y)
    where
      go : (t : Bool) → length (x ∷ []) ≤ length (attach same t x y)
      go true = omega arith
      go false = omega arith
  push_longer (x ∷ z ∷ zs) y = omega (arith, push_longer (z ∷ zs) y)

  extend_longer : (o : Option B) (c d : ℕ) (xs : List (Piece B)) → length xs ≤ length (extend same o c d xs)
  extend_longer None c d xs = omega arith
  extend_longer (Some v) c d xs = push_longer xs _

  -- pieces up to a point grow, one point after the other, to pieces up to a later one
  grown : Decides same → (f : ℕ → Option B) (m k : ℕ) (xs : List (Piece B)) → Below k xs f → (ys : List (Piece B)) × Below (k + m) ys f × (length xs ≤ length ys)
  grown law f zero k xs b = let e : k + 0 ≡ k = omega arith in (xs, rw e b, omega arith)
  grown law f (suc m) k xs b =
      let ys = extend same (f k) k (k + 1) xs in
      let r = grown law f m (k + 1) ys (extend_below same law f k (k + 1) xs b (omega arith) (λ p h l. ap f (omega arith))) in
      let e : k + 1 + m ≡ k + suc m = omega arith in
      (r.0, rw e at r.1, omega (arith, r.2, extend_longer (f k) k (k + 1) xs))

-- pieces that stand after others, or before them
module _ {B : Type 0} where
  within_last : (b n : ℕ) (xs ys : List (Piece B)) → Within b n (xs ++ ys) → Within 0 n ys
  within_last b n [] [] w = omega arith
  within_last b n [] (y ∷ ys) w = (omega arith, w.1, w.2)
  within_last b n (x ∷ xs) ys w = within_last (x.end + 1) n xs ys w.2

  within_first : (b n : ℕ) (xs ys : List (Piece B)) → Within b n (xs ++ ys) → Within b n xs
  within_first b n [] ys w = within_le b n ys w
  within_first b n (x ∷ xs) ys w = (w.0, w.1, within_first (x.end + 1) n xs ys w.2)

-- a walk over the stretches of lists: its rule, and the columns that its pieces are laid into from a place on, where they are written
pub record Walk (A B C : Type 0) : Type 0 where
  pub same : B → B → Bool
  pub rule : List (Option A) → Option B
  pub points : ℕ
  pub lists : List (List (Piece A))
  pub lengths : C → List ℕ
  pub lay : ℕ → List (Piece B) → C → C
  pub write : Bool
  pub from : ℕ
  pub columns : C

module _ {A B C : Type 0} (k : Walk A B C) where
  abbrev pub pieces : List (Piece B)
  pieces = runs k.same k.rule k.points k.lists

  -- the rule admits no point at which no list has anything, and there is room for all pieces
  pub record Walkable : Type 0 where
    pub law : Decides k.same
    pub takes : Takes k.lengths k.lay
    pub formed : AllWellFormed k.points k.lists
    pub nothing : k.rule (nones k.lists) ≡ None
    pub roomy : k.write ≡ true → k.from + length pieces ≤ least (k.lengths k.columns)
    pub few : k.from + length pieces < 2 ^ 64

  abbrev Upto : ℕ → List (Piece B) → Type 0
  Upto p xs = Below p xs (says k.rule k.lists)

  -- the points below p are dealt with: the columns as they are now, the pieces that wait, and the place after those that are done
  pub record Going (d : C) (waiting : List (Piece B)) (place p : ℕ) : Type 0 where
    pub ok : Walkable
    pub upto : p ≤ k.points
    pub done : List (Piece B)
    pub counted : place ≡ k.from + length done
    pub laid : d ≡ lay_if k.lay k.write k.from done k.columns
    pub below : Upto p (done ++ waiting)
    pub first : waiting ≡ [] → done ≡ []

module _ {A B C : Type 0} {k : Walk A B C} where
  pub going_first : Walkable k → Going k k.columns [] k.from 0
  going_first ok = record { ok = ok; upto = omega arith; done = []; counted = sym (add-zero k.from); laid = sym (if_nothing ok.takes k.from k.write k.columns); below = nothing_below (says k.rule k.lists); first = λ e. refl }

  -- pieces up to a point are no more than all pieces
  not_more : Walkable k → (p : ℕ) (xs : List (Piece B)) → p ≤ k.points → Upto k p xs → length xs ≤ length (pieces k)
  not_more ok p xs h b =
      let r = grown k.same ok.law (says k.rule k.lists) (k.points - p) p xs b in
      let e : p + (k.points - p) ≡ k.points = omega arith in
      omega (arith, r.2, ap length (runs_only k.same ok.law k.rule k.points k.lists ok.formed r.0 (rw e at r.1)))

  module _ {d : C} {waiting : List (Piece B)} {place p : ℕ} (g : Going k d waiting place p) where
    done_roomy : k.write ≡ true → k.from + length g.done ≤ least (k.lengths k.columns)
    done_roomy t = omega (arith, length-append g.done waiting, not_more g.ok p (g.done ++ waiting) g.upto g.below, g.ok.roomy t)

    -- every column keeps its length
    pub going_long : Long (k.lengths d) (k.lengths k.columns)
    going_long = rw g.laid (if_keeps g.ok.takes k.from k.write g.done k.columns done_roomy)

    -- what is put next, and what there is besides
    module _ (next rest : List (Piece B)) {q : ℕ} (h : q ≤ k.points) (b : Upto k q ((g.done ++ next) ++ rest)) where
      all_few : length (g.done ++ next) ≤ length (pieces k)
      all_few = omega (arith, length-append (g.done ++ next) rest, not_more g.ok q ((g.done ++ next) ++ rest) h b)

      next_roomy : k.write ≡ true → k.from + length (g.done ++ next) ≤ least (k.lengths k.columns)
      next_roomy t = omega (arith, all_few, g.ok.roomy t)

      next_puttable : Puttable k.points (least (k.lengths d)) k.write place next
      next_puttable =
          let l = length-append g.done next in
          record {
            within = within_last 0 k.points g.done next (within_mono 0 q k.points (g.done ++ next) (within_first 0 q (g.done ++ next) rest b.canonical.0) h);
            roomy = λ t. omega (arith, next_roomy t, g.counted, same_room (k.lengths d) (k.lengths k.columns) going_long);
            few = omega (arith, g.counted, all_few, g.ok.few);
          }

      module _ {d' : C} {place' : ℕ} (u : PutPieces k.lay k.write place next d d' place') where
        next_counted : place' ≡ k.from + length (g.done ++ next)
        next_counted = omega (arith, u.count, g.counted, length-append g.done next)

        next_laid : d' ≡ lay_if k.lay k.write k.from (g.done ++ next) k.columns
        next_laid = u.is ∙ rw (g.laid, g.counted) (if_append g.ok.takes k.from k.write g.done next k.columns next_roomy)

    -- points of which the rule says nothing
    pub skipped : (q : ℕ) → p ≤ q → q ≤ k.points → ((r : ℕ) → p ≤ r → r < q → says k.rule k.lists r ≡ None) → Going k d waiting place q
    skipped q h m f = record { ok = g.ok; upto = m; done = g.done; counted = g.counted; laid = g.laid; below = skip_below p q (g.done ++ waiting) (says k.rule k.lists) g.below h f; first = g.first }

    -- a stretch
    module _ {act : List (Option A)} {start end : ℕ} (t : Stretch k.points k.lists p act start end) where
      pub turn_less : k.points - (end + 1) < k.points - p
      turn_less = omega (arith, t.later, t.order, t.below)

      before : (q : ℕ) → p ≤ q → q < start → says k.rule k.lists q ≡ None
      before q h m = ap k.rule (t.gap q h m) ∙ g.ok.nothing

      -- that is not admitted
      pub turn_silent : k.rule act ≡ None → Going k d waiting place (end + 1)
      turn_silent e = skipped (end + 1) (omega (arith, t.later, t.order)) (omega (arith, t.below)) (λ q h m. go q h m (le_or_lt start q))
        where
          go : (q : ℕ) → p ≤ q → q < end + 1 → (start ≤ q) ⊎ (q < start) → says k.rule k.lists q ≡ None
          go q h m (inl u) = ap k.rule (t.on q u (omega arith)) ∙ e
          go q h m (inr u) = before q h u

      -- what waits ends before it
      pub turn_apart : Within 0 start waiting
      turn_apart = within_last 0 start g.done waiting (within_mono 0 p start (g.done ++ waiting) g.below.canonical.0 t.later)

      -- that is admitted with a value, and is pushed to what waits
      module _ {y : Piece B} {next : List (Piece B)} {z : Piece B} (u : PushedOn k.same waiting y next z) (s : y.start ≡ start) (f : y.end ≡ end) (e : k.rule act ≡ Some y.value) where
        pushed : Upto k (end + 1) (push k.same (g.done ++ waiting) y)
        pushed =
            let q : pred (end + 1) ≡ end = omega arith in
            let r : record { start = start; end = end; value = y.value } ≡ y = λ i. record { start = sym s i; end = sym f i; value = y.value } in
            subst (λ x. Upto k (end + 1) (push k.same (g.done ++ waiting) x)) r
            (rw q at (push_past k.same g.ok.law p start (end + 1) y.value (g.done ++ waiting) (says k.rule k.lists) g.below t.later (omega (arith, t.order)) before (λ r h m. ap k.rule (t.on r h (omega arith)) ∙ e)))

        push_waiting : (xs : List (Piece B)) → waiting ≡ xs → push k.same (g.done ++ xs) y ≡ g.done ++ push k.same xs y
        push_waiting [] q = rw (g.first q)
        push_waiting (x ∷ xs) q = push_last k.same g.done x xs y

        after_push : Upto k (end + 1) ((g.done ++ next) ++ (z ∷ []))
        after_push = rw (append_assoc, u.is, ← push_waiting waiting refl) pushed

        pub turn_puttable : Puttable k.points (least (k.lengths d)) k.write place next
        turn_puttable = next_puttable next (z ∷ []) (omega (arith, t.below)) after_push

        pub turn_more : {d' : C} {place' : ℕ} → PutPieces k.lay k.write place next d d' place' → Going k d' (z ∷ []) place' (end + 1)
        turn_more v =
            record {
              ok = g.ok;
              upto = omega (arith, t.below);
              done = g.done ++ next;
              counted = next_counted next (z ∷ []) (omega (arith, t.below)) after_push v;
              laid = next_laid next (z ∷ []) (omega (arith, t.below)) after_push v;
              below = after_push;
              first = λ q. absurd (omega (arith, ap length q));
            }

    -- no stretch is left
    module _ (over : NoStretch k.points k.lists p) where
      whole : Upto k k.points (g.done ++ waiting)
      whole = skip_below p k.points (g.done ++ waiting) (says k.rule k.lists) g.below g.upto (λ q h m. ap k.rule (over q h m) ∙ g.ok.nothing)

      last : Upto k k.points ((g.done ++ waiting) ++ [])
      last = rw append-nil whole

      pub last_puttable : Puttable k.points (least (k.lengths d)) k.write place waiting
      last_puttable = next_puttable waiting [] (omega arith) last

      pub walked : {d' : C} {place' : ℕ} → PutPieces k.lay k.write place waiting d d' place' → PutPieces k.lay k.write k.from (pieces k) k.columns d' place'
      walked u =
          let e = runs_only k.same g.ok.law k.rule k.points k.lists g.ok.formed (g.done ++ waiting) whole in
          record { count = next_counted waiting [] (omega arith) last u ∙ ap (λ xs. k.from + length xs) e; is = next_laid waiting [] (omega arith) last u ∙ ap (λ xs. lay_if k.lay k.write k.from xs k.columns) e }
