-- Pieces laid into columns from a place on, one after the other: what a pass keeps from piece to piece. Assumes nothing.
use Prim.Native.Nat.{ℕ, ◌+◌, ◌≤◌, ◌<◌}
use mathlib.Core.Path.{◌≡◌, refl, sym, ap, subst, ◌∙◌}
use mathlib.Core.Bool.{Bool, true, false}
use mathlib.Core.List.{List, [], ◌∷◌}
use native.Mathlib.Omega.{arith}
use lib.IntN.{ℤ}
use Rattle.std.specs.declared.option.Option.{Option}
use Rattle.std.specs.declared.option.Option.TheVariants.{None, Some}
use lib.ListN.{length, take, drop, length-take}
use lib.Seq.{take_all, length-take-le}
use Rattle.rules.specs.Piece.{Piece}
use Rattle.rules.specs.Lists.{Width, Lent}
use Rattle.rules.specs.TwoWay.{Match, side_value, presence}
use Rattle.rules.specs.Paired.{Paired, lengths, room}
use Rattle.rules.specs.Refusals.{Formed}
use Rattle.rules.specs.Proving.Long.{Long}
use Rattle.rules.specs.declared.Pairing.{Pairing}
use Rattle.rules.specs.declared.Kind.TheVariants.{TwoWay}
use Rattle.rules.proofs.Fronts.{drop_lt, drop_more, drop_none, laid_long, laid_more, laid_nothing}
use Rattle.two_way.specs.Sides.{piece_of, view, remains}
use Rattle.two_way.specs.Steps.{Begun, Ready, Took, Stepped}
use Rattle.two_way.specs.declared.Cursor.{Cursor}
use Rattle.two_way.specs.declared.Pair.{Pair}
use Rattle.two_way_pass.specs.Pairs.{value, first, pairs, both}
use Rattle.two_way_pass.specs.Columns.{Writable, row, lays}
use Rattle.two_way_pass.proofs.Lists.{begun_ready, pairs_upto}

-- what each column takes of a piece
abbrev starts_of : {P : Type 0} → Width P → Piece Match → P
starts_of w x = w.point x.start

abbrev ends_of : {P : Type 0} → Width P → Piece Match → P
ends_of w x = w.point x.end

abbrev lefts_of : List ℤ → Piece Match → ℤ
lefts_of v x = side_value (value v) x.value.0

abbrev rights_of : List ℤ → Piece Match → ℤ
rights_of v x = side_value (value v) x.value.1

abbrev presences_of : Piece Match → ℕ
presences_of x = presence x.value

-- the columns with a piece at a place, where pieces are written
abbrev pub put_row : {P : Type 0} → Width P → List ℤ → Bool → ℕ → Pair → Paired P → Paired P
put_row w v true place y c = row w v place (piece_of y) c
put_row w v false place y c = c

module _ {P : Type 0} (w : Width P) (v : List ℤ) (from : ℕ) (c : Paired P) where
  -- pieces that there is room for leave the lengths
  pub lays_long : (write : Bool) (xs : List (Piece Match)) → (write ≡ true → from + length xs ≤ room c) → Long (lengths (lays w v write from xs c)) (lengths c)
  lays_long false xs h = (refl, (refl, (refl, (refl, (refl, tt)))))
  lays_long true xs h =
      let r = h refl in
      (laid_long _ from xs c.start (omega arith), (laid_long _ from xs c.end (omega arith), (laid_long _ from xs c.left (omega arith), (laid_long _ from xs c.right (omega arith), (laid_long _ from xs c.presence (omega arith), tt)))))

  lays_nothing : (write : Bool) → lays w v write from [] c ≡ c
  lays_nothing false = refl
  lays_nothing true = λ i. record {
    start = laid_nothing (starts_of w) from c.start i;
    end = laid_nothing (ends_of w) from c.end i;
    left = laid_nothing (lefts_of v) from c.left i;
    right = laid_nothing (rights_of v) from c.right i;
    presence = laid_nothing presences_of from c.presence i;
  }

  -- the room stays
  lays_room : (write : Bool) (xs : List (Piece Match)) → (write ≡ true → from + length xs ≤ room c) → room (lays w v write from xs c) ≡ room c
  lays_room false xs h = refl
  lays_room true xs h =
      let r = h refl in
      rw (
        laid_long (starts_of w) from xs c.start (omega arith),
        laid_long (ends_of w) from xs c.end (omega arith),
        laid_long (lefts_of v) from xs c.left (omega arith),
        laid_long (rights_of v) from xs c.right (omega arith),
        laid_long presences_of from xs c.presence (omega arith),
      ) refl

  -- one piece more
  lays_more : (write : Bool) (xs : List (Piece Match)) (n : ℕ) (y : Pair) (ys : List (Piece Match)) → drop n xs ≡ piece_of y ∷ ys → (write ≡ true → from + length xs ≤ room c) → put_row w v write (from + n) y (lays w v write from (take n xs) c) ≡ lays w v write from (take (n + 1) xs) c
  lays_more false xs n y ys e h = refl
  lays_more true xs n y ys e h =
      let r = h refl in
      λ i. record {
        start = laid_more (starts_of w) from xs n (piece_of y) ys c.start e (omega arith) i;
        end = laid_more (ends_of w) from xs n (piece_of y) ys c.end e (omega arith) i;
        left = laid_more (lefts_of v) from xs n (piece_of y) ys c.left e (omega arith) i;
        right = laid_more (rights_of v) from xs n (piece_of y) ys c.right e (omega arith) i;
        presence = laid_more presences_of from xs n (piece_of y) ys c.presence e (omega arith) i;
      }

-- n of all pieces are laid from a place on, and k has the rest: the columns before, and now
pub record Going {P : Type 0} (w : Width P) (o : Pairing) (l : Lent P) (m : ℕ) (write : Bool) (from : ℕ) (c d : Paired P) (k : Cursor) (n : ℕ) : Type 0 where
  pub formed : Formed w TwoWay l
  pub roomy : write ≡ true → from + length (pairs w o l) ≤ room c
  pub ready : Ready (both w l m) (view (both w l m) k)
  pub rests : drop n (pairs w o l) ≡ remains (both w l m) o (view (both w l m) k)
  pub below : n ≤ length (pairs w o l)
  pub laid : d ≡ lays w l.values write from (take n (pairs w o l)) c

module _ {P : Type 0} {w : Width P} {o : Pairing} {l : Lent P} {m : ℕ} {write : Bool} {from : ℕ} {c d : Paired P} {k : Cursor} {n : ℕ} (g : Going w o l m write from c d k n) where
  abbrev ps : List (Piece Match)
  ps = pairs w o l

  pub going_long : Long (lengths d) (lengths c)
  going_long = rw g.laid (lays_long w l.values from c write (take n ps) (λ e. omega (arith, length-take n ps, g.roomy e)))

  module _ {r : Option (Pair × Cursor)} {y : Pair} {j : Cursor} (e : Stepped (both w l m) o (view (both w l m) k) r) (q : r ≡ Some (y, j)) where
    s : Took (both w l m) o (view (both w l m) k) y (view (both w l m) j)
    s = subst (Stepped (both w l m) o (view (both w l m) k)) q e

    next : drop n ps ≡ piece_of y ∷ remains (both w l m) o (view (both w l m) j)
    next = g.rests ∙ s.next

    pub going_lt : n < length ps
    going_lt = drop_lt ps n (piece_of y) _ next

    pub going_few : n < 4095
    going_few = omega (arith, going_lt, pairs_upto g.formed o, g.formed.ranges_few)

    module _ {place : ℕ} (p : place ≡ from + n) where
      -- there is a place for it, where pieces are written
      pub going_writable : write ≡ true → Writable w l.values place y d
      going_writable t =
          let h = g.roomy t in
          let few = going_lt in
          let same : room d ≡ room c = rw g.laid (lays_room w l.values from c write (take n ps) (λ u. omega (arith, length-take-le n ps (omega arith)))) in
          record {
            room = omega arith;
            start = omega (arith, s.fits.order, s.fits.below);
            end = s.fits.below;
            left = rw g.formed.agree.values_long s.fits.left;
            right = rw g.formed.agree.values_long s.fits.right;
          }

      -- one more piece
      pub going_more : {d' : Paired P} → d' ≡ put_row w l.values write place y d → Going w o l m write from c d' j (n + 1)
      going_more u =
          record {
            formed = g.formed;
            roomy = g.roomy;
            ready = s.ready;
            rests = drop_more ps n (piece_of y) _ next;
            below = omega (arith, going_lt);
            laid = u ∙ rw (p, g.laid) (lays_more w l.values from c write ps n y _ next g.roomy);
          }

  -- no piece is left
  pub going_last : {r : Option (Pair × Cursor)} → Stepped (both w l m) o (view (both w l m) k) r → r ≡ None → (n ≡ length ps) × (d ≡ lays w l.values write from ps c)
  going_last e q =
      let h = drop_none ps n (g.rests ∙ subst (Stepped (both w l m) o (view (both w l m) k)) q e) in
      (omega (arith, g.below), g.laid ∙ ap (λ xs. lays w l.values write from xs c) (take_all n ps h))

-- from the first ranges on
pub going_first : {P : Type 0} {w : Width P} {o : Pairing} {l : Lent P} {m : ℕ} {write : Bool} {from : ℕ} {c : Paired P} → Formed w TwoWay l → m ≡ first l.counts → (write ≡ true → from + length (pairs w o l) ≤ room c) → {k : Cursor} → Begun (both w l m) k → Going w o l m write from c c k 0
going_first {w} {o} {l} {m} {write} {from} {c} f q roomy b =
    let h = begun_ready f q b in
    record { formed = f; roomy = roomy; ready = h.0; rests = h.1 o; below = omega arith; laid = sym (lays_nothing w l.values from c write) }
