-- Which piece comes next: a prefix of one range alone, or an overlap; which range can be dropped; when nothing is left. Assumes nothing.
use Prim.Native.Nat.{ℕ, min, max, ◌+◌, ◌-◌, ◌≤◌, ◌<◌}
use mathlib.Core.Path.{◌≡◌, refl, sym, subst, ◌∙◌}
use mathlib.Core.Logic.{◌⊎◌, inl, inr}
use mathlib.Core.Bool.{true}
use Rattle.std.specs.declared.option.Option.{Option}
use Rattle.std.specs.declared.option.Option.TheVariants.{None, Some}
use mathlib.Core.List.{List}
use native.Mathlib.Omega.{arith}
use Rattle.integer.specs.KeyAt.{KeyAt}
use Rattle.rules.specs.Piece.{Piece, at, Within}
use Rattle.rules.specs.TwoWay.{keeps}
use Rattle.rules.specs.declared.Pairing.{Pairing}
use Rattle.rules.specs.declared.Pairing.TheVariants.{Inner, Left, Full}
use Rattle.rules.proofs.At.{at_in, at_after, at_early, le_or_lt}
use Rattle.std.proofs.lemmas.Option.{none-some}
use Rattle.rules.proofs.TwoWay.{within_low}
use Rattle.two_way.specs.Sides.{of_left, of_right, of_both, here, View, side, onward, Two, start_at, end_at, stop, left_of, right_of, remains}
use Rattle.two_way.specs.Steps.{Before, Fresh, Ready, Taken, Stepped}
use Rattle.two_way.specs.declared.Side.{Side}
use Rattle.two_way.specs.declared.Cursor.{Cursor}
use Rattle.two_way.specs.declared.Pair.{Pair}
use Rattle.two_way.proofs.Peel.{said, said_nothing, pair_none, pair_same}
use Rattle.two_way.proofs.Sides.{side_fresh, here_before, side_upto, side_from, side_early, side_ends}
use Rattle.two_way.proofs.Emit.{Emits, emitted}

-- what is left, as its sides are known
abbrev pub sides : Option Side → Option Side → View
sides x y = record { left = x; right = y }

known : {c : View} {x y : Option Side} → x ≡ c.left → y ≡ c.right → sides x y ≡ c
known p q i = record { left = p i; right = q i }

module _ {P : Type 0} (t : Two P) where
  -- the list of a side that stops at a
  abbrev list : ℕ → Option Side → List (Piece ℕ)
  list a x = side (start_at t) (end_at t) a x

  abbrev Ascends : ℕ → Option Side → Type 0
  Ascends a x = Within 0 t.width.points (list a x)

  -- the ranges after a side's own
  abbrev after : ℕ → Side → List (Piece ℕ)
  after a x = onward (start_at t) (end_at t) a (x.at + 1)

  abbrev own : Side → Piece ℕ
  own x = record { start = x.start; end = end_at t x.at; value = x.at }

  -- a side at its range
  module _ (a : ℕ) (x : Side) (u : Ascends a (Some x)) where
    before : (z : ℕ) → z < x.start → at (list a (Some x)) z ≡ None
    before = side_early (start_at t) (end_at t) a t.width.points x u

    ends : (q : ℕ) → q ≡ end_at t x.at → at (list a (Some x)) (q + 1) ≡ Some x.at → ⊥
    ends q e g = side_ends (start_at t) (end_at t) a t.width.points x u (rw e at g)

  -- x alone has the points from its start to q, and no longer past q
  record Prefix (a b : ℕ) (x : Side) (y : Option Side) (q : ℕ) : Type 0 where
    order : x.start ≤ q
    upto : q ≤ end_at t x.at
    misses : Within (q + 1) t.width.points (list b y)
    edge : at (list a (Some x)) (q + 1) ≡ Some x.at → at (list b y) (q + 1) ≡ None → ⊥
    early : (z : ℕ) → z < x.start → (at (list a (Some x)) z ≡ None) × (at (list b y) z ≡ None)

  module _ (a b : ℕ) (x : Side) (u : Ascends a (Some x)) where
    prefix_made : (y : Option Side) (q : ℕ) → x.start ≤ q → q ≤ end_at t x.at → Within (q + 1) t.width.points (list b y) → (at (list a (Some x)) (q + 1) ≡ Some x.at → at (list b y) (q + 1) ≡ None → ⊥) → Prefix a b x y q
    prefix_made y q o l w e =
        record { order = o; upto = l; misses = w; edge = e; early = λ z m. (before a x u z m, at_early (q + 1) t.width.points (list b y) w z (omega arith)) }

    -- the other is over
    alone : Prefix a b x None (end_at t x.at)
    alone = prefix_made None (end_at t x.at) u.1 (omega arith) (side_upto (start_at t) (end_at t) a t.width.points x u) (λ g n. ends a x u _ refl g)

    -- the other starts later
    prefix : (y : Side) → Ascends b (Some y) → x.start < y.start → (q : ℕ) → q ≡ min (end_at t x.at) (y.start - 1) → Prefix a b x (Some y) q
    prefix y w l q e =
        prefix_made (Some y) q (omega (arith, u.1)) (omega arith) (within_low (q + 1) y.start t.width.points (list b (Some y)) (omega arith) (side_from (start_at t) (end_at t) b t.width.points y w)) (edge (le_or_lt (end_at t x.at) (y.start - 1)))
      where
        edge : (end_at t x.at ≤ y.start - 1) ⊎ (y.start - 1 < end_at t x.at) → at (list a (Some x)) (q + 1) ≡ Some x.at → at (list b (Some y)) (q + 1) ≡ None → ⊥
        edge (inl k) g n = ends a x u q (omega arith) g
        edge (inr k) g n = none-some _ (sym n ∙ at_in (own y) (after b y) (q + 1) (omega arith) (omega (arith, w.1)))

-- both lists have a range left, which ends at le and at re
pub record Ranges {P : Type 0} (t : Two P) (c : View) (x y : Side) (le re : ℕ) : Type 0 where
  pub ready : Ready t (sides (Some x) (Some y))
  pub is : sides (Some x) (Some y) ≡ c
  pub left_end : KeyAt t.width t.ends x.at le
  pub right_end : KeyAt t.width t.ends y.at re

-- what a step may go on from in place of c
pub record Instead {P : Type 0} (t : Two P) (o : Pairing) (c d : View) : Type 0 where
  pub ready : Ready t d
  pub same : remains t o c ≡ remains t o d

-- an operation that keeps nothing without the left, and without the right
abbrev pub WantsLeft : Pairing → Type 0
WantsLeft o = (b : Option ℕ) → said o None b ≡ None

abbrev pub WantsRight : Pairing → Type 0
WantsRight o = (a : Option ℕ) → said o a None ≡ None

pub inner_wants_right : WantsRight Inner
inner_wants_right None = refl
inner_wants_right (Some i) = refl

module _ {P : Type 0} {t : Two P} {x : Side} {y : Option Side} where
  left_made : Ready t (sides (Some x) y) → (o : Pairing) → keeps o (Some x.at, None) ≡ true → (q : ℕ) → q < t.width.points → Prefix t t.middle (stop t) x y q → {r : Pair} {j : ℕ} → r ≡ of_left x j q → Emits t o (sides (Some x) y) r
  left_made ready o keep q l f e =
      rw e (record {
        covering = record { ready = ready; left = (refl, omega arith, f.upto); right = f.misses };
        order = f.order;
        below = l;
        early = λ z m. let i = (f.early z m).0 in let j = (f.early z m).1 in rw (i, j) (said_nothing o);
        kept = keep;
        edge = f.edge;
      })

  right_made : Ready t (sides y (Some x)) → (q : ℕ) → q < t.width.points → Prefix t (stop t) t.middle x y q → {r : Pair} {i : ℕ} → r ≡ of_right i x q → Emits t Full (sides y (Some x)) r
  right_made ready q l f e =
      rw e (record {
        covering = record { ready = ready; left = f.misses; right = (refl, omega arith, f.upto) };
        order = f.order;
        below = l;
        early = λ z m. let i = (f.early z m).1 in let j = (f.early z m).0 in rw (i, j);
        kept = refl;
        edge = λ g n. f.edge n g;
      })

module _ {P : Type 0} {t : Two P} {c : View} (ready : Ready t c) where
  -- both lists have a range left
  pub both : {x y : Side} {le re : ℕ} → Some x ≡ c.left → Some y ≡ c.right → KeyAt t.width t.ends x.at le → KeyAt t.width t.ends y.at re → Ranges t c x y le re
  both p q k m = record { ready = subst (Ready t) (sym (known p q)) ready; is = known p q; left_end = k; right_end = m }

  -- one list alone, where the other is over
  pub left_alone : (o : Pairing) {x : Side} {q : ℕ} → keeps o (Some x.at, None) ≡ true → Some x ≡ c.left → None ≡ c.right → KeyAt t.width t.ends x.at q → {y : Pair} {j : ℕ} → y ≡ of_left x j q → Emits t o c y
  left_alone o {x} {q} keep p n k {y} e =
      let r = subst (Ready t) (sym (known p n)) ready in
      subst (λ c. Emits t o c y) (known p n) (left_made r o keep q k.below (rw k.is (alone t t.middle (stop t) x r.left)) e)

  pub right_alone : {x : Side} {q : ℕ} → None ≡ c.left → Some x ≡ c.right → KeyAt t.width t.ends x.at q → {y : Pair} {i : ℕ} → y ≡ of_right i x q → Emits t Full c y
  right_alone {x} {q} n p k {y} e =
      let r = subst (Ready t) (sym (known n p)) ready in
      subst (λ c. Emits t Full c y) (known n p) (right_made r q k.below (rw k.is (alone t (stop t) t.middle x r.right)) e)

  nothing : (o : Pairing) → ((z : ℕ) → said o (at (left_of t c) z) (at (right_of t c) z) ≡ None) → Stepped t o c None
  nothing o e = pair_none o t.width.points (left_of t c) (right_of t c) ready.left ready.right e

  pub left_done : (o : Pairing) → WantsLeft o → None ≡ c.left → Stepped t o c None
  left_done o wants n = nothing o (λ z. rw (sym n) (wants _))

  pub right_done : (o : Pairing) → WantsRight o → None ≡ c.right → Stepped t o c None
  right_done o wants n = nothing o (λ z. rw (sym n) (wants _))

  pub both_done : (o : Pairing) → None ≡ c.left → None ≡ c.right → Stepped t o c None
  both_done o n m = nothing o (λ z. rw (sym n, sym m) (said_nothing o))

  pub stay : (o : Pairing) → Instead t o c c
  stay o = record { ready = ready; same = refl }

  -- a cursor of which the operation says the same at every point
  made_same : (o : Pairing) (d : View) → Ready t d → ((z : ℕ) → said o (at (left_of t d) z) (at (right_of t d) z) ≡ said o (at (left_of t c) z) (at (right_of t c) z)) → Instead t o c d
  made_same o d r e =
      record {
        ready = r;
        same = pair_same o t.width.points (left_of t c) (right_of t c) ready.left ready.right (left_of t d) (right_of t d) r.left r.right e;
      }

-- a side without its range at x, which has gone
module _ {P : Type 0} (t : Two P) (a : ℕ) (x y : Side) (u : Ascends t a (Some x)) (f : Fresh t.width t.starts a (x.at + 1) y) where
  abbrev rest : Option Side
  rest = here a y

  is_onward : list t a rest ≡ after t a x
  is_onward = side_fresh t.width t.starts (end_at t) a (x.at + 1) y f

  rest_before : Before a rest
  rest_before = here_before a y

  rest_ascends : Ascends t a rest
  rest_ascends = within_low 0 (end_at t x.at + 1) t.width.points (list t a rest) (omega arith) (rw is_onward u.2)

  rest_at : (z : ℕ) → end_at t x.at < z → at (list t a rest) z ≡ at (list t a (Some x)) z
  rest_at z l = rw is_onward (sym (at_after (own t x) (after t a x) z l))

module _ {P : Type 0} {t : Two P} {c : View} {x y : Side} {le re : ℕ} (b : Ranges t c x y le re) where
  abbrev lefts : List (Piece ℕ)
  lefts = list t t.middle (Some x)

  abbrev rights : List (Piece ℕ)
  rights = list t (stop t) (Some y)

  left_before : (z : ℕ) → z < x.start → at lefts z ≡ None
  left_before = before t t.middle x b.ready.left

  right_before : (z : ℕ) → z < y.start → at rights z ≡ None
  right_before = before t (stop t) y b.ready.right

  left_order : x.start ≤ le
  left_order = omega (arith, b.ready.left.1, b.left_end.is)

  right_order : y.start ≤ re
  right_order = omega (arith, b.ready.right.1, b.right_end.is)

  -- what is known of both ranges is known of c
  of_c : (F : View → Type 0) → F (sides (Some x) (Some y)) → F c
  of_c F h = subst F b.is h

  -- one list alone, up to the other's start or its own end
  pub left_prefix : (o : Pairing) → keeps o (Some x.at, None) ≡ true → x.start < y.start → {q : ℕ} → q ≡ min le (y.start - 1) → {r : Pair} {j : ℕ} → r ≡ of_left x j q → Emits t o c r
  left_prefix o keep l {q} e {r} is =
      of_c (λ c. Emits t o c r)
      (left_made b.ready o keep q (omega (arith, b.left_end.below)) (prefix t t.middle (stop t) x b.ready.left y b.ready.right l q (omega (arith, b.left_end.is))) is)

  pub right_prefix : y.start < x.start → {q : ℕ} → q ≡ min re (x.start - 1) → {r : Pair} {i : ℕ} → r ≡ of_right i y q → Emits t Full c r
  right_prefix l {q} e {r} is =
      of_c (λ c. Emits t Full c r)
      (right_made b.ready q (omega (arith, b.right_end.below)) (prefix t (stop t) t.middle y b.ready.right x b.ready.left l q (omega (arith, b.right_end.is))) is)

  keeps_both : (o : Pairing) → keeps o (Some x.at, Some y.at) ≡ true
  keeps_both Inner = refl
  keeps_both Left = refl
  keeps_both Full = refl

  -- both, from the farther start to the earlier end, where before it the operation says nothing
  both_made : (o : Pairing) → ((z : ℕ) → z < max x.start y.start → said o (at lefts z) (at rights z) ≡ None) → x.start ≤ re → y.start ≤ le → {q : ℕ} → q ≡ min le re → {r : Pair} → r ≡ of_both x y q → Emits t o c r
  both_made o early l d {q} e {r} is =
      of_c (λ c. Emits t o c r)
      (rw is (record {
        covering = record { ready = b.ready; left = (refl, omega arith, omega (arith, b.left_end.is)); right = (refl, omega arith, omega (arith, b.right_end.is)) };
        order = omega (arith, left_order, right_order);
        below = omega (arith, b.left_end.below);
        early = early;
        kept = keeps_both o;
        edge = edge (le_or_lt le re);
      }))
    where
      edge : (le ≤ re) ⊎ (re < le) → at lefts (q + 1) ≡ Some x.at → at rights (q + 1) ≡ Some y.at → ⊥
      edge (inl l) g n = ends t t.middle x b.ready.left q (omega (arith, b.left_end.is)) g
      edge (inr l) g n = ends t (stop t) y b.ready.right q (omega (arith, b.right_end.is)) n

  -- both start together
  pub both_start : x.start ≡ y.start → {q : ℕ} → q ≡ min le re → {r : Pair} → r ≡ of_both x y q → Emits t Full c r
  both_start l = both_made Full (λ z g. let u = left_before z (omega arith) in let v = right_before z (omega arith) in rw (u, v)) (omega (arith, right_order)) (omega (arith, left_order))

  -- the right covers the left's start
  pub left_covered : y.start ≤ x.start → x.start ≤ re → {q : ℕ} → q ≡ min le re → {r : Pair} → r ≡ of_both x y q → Emits t Left c r
  left_covered l d = both_made Left (λ z g. let u = left_before z (omega arith) in rw u) d (omega (arith, left_order))

  -- they share a point
  pub overlap : x.start ≤ re → y.start ≤ le → {q : ℕ} → q ≡ min le re → {r : Pair} → r ≡ of_both x y q → Emits t Inner c r
  overlap = both_made Inner (λ z g. early z (le_or_lt x.start z) g)
    where
      early : (z : ℕ) → (x.start ≤ z) ⊎ (z < x.start) → z < max x.start y.start → said Inner (at lefts z) (at rights z) ≡ None
      early z (inl g) n = let v = right_before z (omega arith) in rw v (inner_wants_right (at lefts z))
      early z (inr g) n = let u = left_before z g in rw u

  -- a range that ends before the other starts can go, where the operation wants the other
  pub drop_right : (o : Pairing) → WantsLeft o → re < x.start → {r : Side} → Fresh t.width t.starts (stop t) (y.at + 1) r → Instead t o c (sides c.left (here (stop t) r))
  drop_right o wants l {r} f =
      of_c (λ c. Instead t o c (sides c.left (here (stop t) r)))
      (made_same b.ready o (sides (Some x) (here (stop t) r)) (record { ends_long = b.ready.ends_long; splits = b.ready.splits; left_place = b.ready.left_place; right_place = rest_before t (stop t) y r b.ready.right f; left = b.ready.left; right = rest_ascends t (stop t) y r b.ready.right f }) (λ z. go z (le_or_lt x.start z)))
    where
      go : (z : ℕ) → (x.start ≤ z) ⊎ (z < x.start) → said o (at lefts z) (at (list t (stop t) (here (stop t) r)) z) ≡ said o (at lefts z) (at rights z)
      go z (inl k) = let i = rest_at t (stop t) y r b.ready.right f z (omega (arith, b.right_end.is)) in rw i
      go z (inr k) = let i = left_before z k in rw i (wants _ ∙ sym (wants _))

  pub drop_left : (o : Pairing) → WantsRight o → le < y.start → {r : Side} → Fresh t.width t.starts t.middle (x.at + 1) r → Instead t o c (sides (here t.middle r) c.right)
  drop_left o wants l {r} f =
      of_c (λ c. Instead t o c (sides (here t.middle r) c.right))
      (made_same b.ready o (sides (here t.middle r) (Some y)) (record { ends_long = b.ready.ends_long; splits = b.ready.splits; left_place = rest_before t t.middle x r b.ready.left f; right_place = b.ready.right_place; left = rest_ascends t t.middle x r b.ready.left f; right = b.ready.right }) (λ z. go z (le_or_lt y.start z)))
    where
      go : (z : ℕ) → (y.start ≤ z) ⊎ (z < y.start) → said o (at (list t t.middle (here t.middle r)) z) (at rights z) ≡ said o (at lefts z) (at rights z)
      go z (inl k) = let i = rest_at t t.middle x r b.ready.left f z (omega (arith, b.left_end.is)) in rw i
      go z (inr k) = let i = right_before z k in rw i (wants _ ∙ sym (wants _))

module _ {P : Type 0} {t : Two P} {o : Pairing} where
  pub instead : {b c d : View} → Instead t o b c → Instead t o c d → Instead t o b d
  instead f g = record { ready = g.ready; same = f.same ∙ g.same }

  -- a step from there is a step from c
  pub instead_none : {c d : View} → Instead t o c d → Stepped t o d None → Stepped t o c None
  instead_none f s = f.same ∙ s

  pub instead_emitted : {c d : View} {y : Pair} {r : Pair × Cursor} → Instead t o c d → Emits t o d y → Taken t d y r → Stepped t o c (Some r)
  instead_emitted f m p = let s = emitted m p in record { next = f.same ∙ s.next; ready = s.ready; fits = s.fits }
