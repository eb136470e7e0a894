-- The steps of an entry on its way up or down, over ranks. Assumes nothing.
use Prim.Native.Nat.{ℕ, zero, suc, ◌+◌, ◌-◌, ◌<◌, ◌≤◌}
use mathlib.Core.Path.{◌≡◌, refl, sym, ap, ◌∙◌}
use mathlib.Core.Bool.{Bool, true, false, cond, true≢false, false≢true}
use native.Mathlib.Omega.{arith}
use lib.Dec.{ltb, eqb}
use borrow.Author.Tests.{ltb-true, ltb-false, eqb-true, eqb-false}
use Rattle.std.specs.Ordering.{is_some_and, is_lt, partial_ordering_then, nat_cmp}
use Rattle.std.specs.declared.option.Option.TheVariants.{Some}
use Rattle.std.specs.declared.cmp.Ordering.TheVariants.{Less as Lesser, Equal, Greater}
use Rattle.integer.specs.Order.{Less}
use Rattle.heap.specs.Order.{Under, Ordered, one, count}
use Rattle.heap.specs.Heap.{rank, Heap, Pushed, Popped, Topped}
use Rattle.heap.specs.Holes.{OrderedBut, Stored, Replaced, Sunk, Lowers, Raises, Chosen, Climbed, Sifted}
use Rattle.heap.proofs.Laws.{by_eq, count_more, count_none, heap_none}

-- the order of entries, as the code tests it
pub earlier_said : (a b : ℕ) {x y : ℕ} → x < 256 → y < 256 → Less (rank a x) (rank b y) (is_some_and is_lt (partial_ordering_then (Some (nat_cmp a b)) (Some (nat_cmp x y))))
unfolding rank
earlier_said a b {x} {y} f g = go (ltb a b) (eqb a b) (ltb x y) (eqb x y) refl refl refl
  where
    go : (r s t u : Bool) → ltb a b ≡ r → eqb a b ≡ s → ltb x y ≡ t → Less (rank a x) (rank b y) (is_some_and is_lt (partial_ordering_then (Some (cond r Lesser (cond s Equal Greater))) (Some (cond t Lesser (cond u Equal Greater)))))
    go true s t u l m n = record { yes = λ _. omega (arith, ltb-true a b l); no = λ e. absurd (true≢false e) }
    go false true true u l m n = record { yes = λ _. omega (arith, eqb-true a b m, ltb-true x y n); no = λ e. absurd (true≢false e) }
    go false true false true l m n = record { yes = λ e. absurd (false≢true e); no = λ _. omega (arith, eqb-true a b m, ltb-false x y n) }
    go false true false false l m n = record { yes = λ e. absurd (false≢true e); no = λ _. omega (arith, eqb-true a b m, ltb-false x y n) }
    go false false t u l m n = record { yes = λ e. absurd (false≢true e); no = λ _. omega (arith, ltb-false a b l, eqb-false a b m) }

module _ {f g : ℕ → ℕ} {place v : ℕ} (s : Stored f g place v) where
  -- a store of v gives order where v is between the parent and the children
  stored_ordered : {n : ℕ} → OrderedBut f n place → ((p : ℕ) → Under p place → f p ≤ v) → ((i : ℕ) → Under place i → i < n → v ≤ f i) → Ordered g n
  unfolding Ordered OrderedBut
  stored_ordered o up down p i u l =
      by_eq i place
      (λ e. omega (arith, s.other p (omega arith), ap g e, s.here, up p (omega arith)))
      (λ ne.
      by_eq p place
      (λ e. omega (arith, s.other i ne, ap g e, s.here, down i (omega arith) l))
      (λ np. omega (arith, s.other i ne, s.other p np, o p i u l ne np)))

  count_same : (e n : ℕ) → n ≤ place → count e g n ≡ count e f n
  unfolding count
  count_same e zero h = refl
  count_same e (suc n) h = omega (arith, count_same e n (omega arith), ap (one e) (s.other n (omega arith)))

  stored_count : (e n : ℕ) → place < n → count e g n + one e (f place) ≡ count e f n + one e v
  unfolding count
  stored_count e zero l = absurd (omega arith)
  stored_count e (suc n) l =
      by_eq n place
      (λ q. omega (arith, count_same e n (omega arith), ap (one e) (ap g q ∙ s.here), ap (λ k. one e (f k)) q))
      (λ ne. omega (arith, stored_count e n (omega arith), ap (one e) (s.other n ne)))

  -- v comes to rest at the place
  rests : {n : ℕ} → place < n → OrderedBut f n place → ((p : ℕ) → Under p place → f p ≤ v) → ((i : ℕ) → Under place i → i < n → v ≤ f i) → Replaced f g n place v
  rests l o up down = record { ordered = stored_ordered o up down; kept = λ e. stored_count e _ l }

-- what stands at q goes to a place, and v takes q's
moved : {f m g : ℕ → ℕ} {n place q v : ℕ} → place < n → (q ≡ place → ⊥) → Stored f m place (f q) → Replaced m g n q v → Replaced f g n place v
moved {n = n} {q = q} l ne s r =
    record { ordered = r.ordered; kept = λ e. omega (arith, r.kept e, stored_count s e n l, ap (one e) (s.other q ne)) }

-- the parent's entry comes down, and v goes on from the parent's place
climb_on : {f m : ℕ → ℕ} {n place p v : ℕ} → Lowers f n place v → Under p place → v < f p → Stored f m place (f p) → Lowers m n p v
unfolding OrderedBut
climb_on {f} {m} {place = place} {p = p} w u l s = record {
  inside = omega arith;
  ordered = λ q i x y ni nq.
      by_eq q place
      (λ z. omega (arith, ap m z, s.here, s.other i (omega arith), w.over p i u (omega arith) y))
      (λ nz. let ip : i ≡ place → ⊥ = λ z. nq (omega arith) in omega (arith, s.other q nz, s.other i ip, w.ordered q i x y ip nz));
  below = λ i x y.
      by_eq i place
      (λ z. omega (arith, ap m z, s.here))
      (λ nz. omega (arith, s.other i nz, w.ordered p i x y nz (omega arith)));
  over = λ q i x y z.
      let o : f q ≤ f p = w.ordered q p x (omega arith) (omega arith) (omega arith) in
      by_eq i place
      (λ k. omega (arith, ap m k, s.here, s.other q (omega arith)))
      (λ nk. omega (arith, s.other i nk, s.other q (omega arith), w.ordered p i y z nk (omega arith)));
}

-- the lesser child's entry comes up, and v sinks from the child's place
sift_raises : {f m : ℕ → ℕ} {n place c v : ℕ} → Raises f n place v → Chosen f n place c → f c < v → Stored f m place (f c) → Raises m n c v
unfolding Ordered OrderedBut
sift_raises {f} {m} {place = place} {c = c} w ch l s =
    let first : f place ≤ f c = w.ordered place c ch.under ch.inside in
    record {
      inside = ch.inside;
      ordered = stored_ordered s (λ p i u y _ _. w.ordered p i u y) (λ p u. omega (arith, w.ordered p place u w.inside, first)) ch.least;
      above = λ p u. let z : p ≡ place = omega (arith, u.past, u.near, ch.under.past, ch.under.near) in omega (arith, ap m z, s.here);
    }

sift_on : {f m g : ℕ → ℕ} {n place c v : ℕ} → Raises f n place v → Chosen f n place c → f c < v → Stored f m place (f c) → Sunk m g n c v → Sunk f g n place v
unfolding Ordered OrderedBut
sift_on {f} {m} {g} {n} {place} {c} {v} w ch l s k =
    let below : m c ≡ f c = s.other c (omega (arith, ch.under.past)) in
    let child : f c ≤ g c = k.least (f c) (omega arith) (λ i u y. omega (arith, s.other i (omega (arith, ch.under.past, u.past)), w.ordered c i u y)) in
    record {
      replaced = record {
        ordered = k.replaced.ordered;
        kept = λ e. omega (arith, stored_count s e n w.inside, k.replaced.kept e, ap (one e) below);
      };
      before = λ i y. k.before i (omega (arith, ch.under.past)) ∙ s.other i (omega arith);
      rises = λ i ne. by_eq i c (λ z. omega (arith, ap f z, ap g z, child)) (λ nz. omega (arith, k.rises i nz, s.other i ne));
      least = λ x y z. omega (arith, k.before place (omega (arith, ch.under.past)), s.here, z c ch.under ch.inside);
    }

-- the same with v sunk from the child's place first, and the child's entry brought up after it
sift_up : {f m g : ℕ → ℕ} {n place c v : ℕ} → Raises f n place v → Chosen f n place c → f c < v → Sunk f m n c v → Stored m g place (f c) → Sunk f g n place v
unfolding Ordered OrderedBut
sift_up {f} {m} {g} {n} {place} {c} {v} w ch l k s =
    let stays : m place ≡ f place = k.before place (omega (arith, ch.under.past)) in
    let first : f place ≤ f c = w.ordered place c ch.under ch.inside in
    let child : f c ≤ m c = k.least (f c) (omega arith) (λ i u y. w.ordered c i u y) in
    record {
      replaced = record {
        ordered = stored_ordered s
            (λ p i u y _ _. k.replaced.ordered p i u y)
            (λ p u. omega (arith, k.replaced.ordered p place u w.inside, stays, first))
            (λ i u y. by_eq i c (λ z. omega (arith, ap m z, child)) (λ ne. omega (arith, ch.least i u y, k.rises i ne)));
        kept = λ e. omega (arith, stored_count s e n w.inside, k.replaced.kept e, ap (one e) stays);
      };
      before = λ i y. s.other i (omega arith) ∙ k.before i (omega (arith, ch.under.past));
      rises = λ i ne. by_eq i c (λ z. omega (arith, s.other i ne, ap m z, ap f z, child)) (λ nz. omega (arith, s.other i ne, k.rises i nz));
      least = λ x y z. omega (arith, s.here, z c ch.under ch.inside);
    }

-- a place has one parent
pub one_parent : (f : ℕ → ℕ) (p : ℕ) {place v : ℕ} → Under p place → f p ≤ v → (q : ℕ) → Under q place → f q ≤ v
one_parent f p u l q x = let z : q ≡ p = omega arith in omega (arith, ap f z)

module _ {f g : ℕ → ℕ} {place v : ℕ} where
  pub climb_stays : Stored f g place v → ((p : ℕ) → Under p place → f p ≤ v) → Climbed f g place v
  climb_stays s up = record { settled = λ n o. rests s o.inside o.ordered up o.below }

  pub climb_goes : {m : ℕ → ℕ} {p : ℕ} → Under p place → v < f p → Stored f m place (f p) → Climbed m g p v → Climbed f g place v
  climb_goes u l s c = record { settled = λ n o. moved o.inside (omega arith) s (c.settled n (climb_on o u l s)) }

  pub sift_stays : {n : ℕ} → Stored f g place v → ((i : ℕ) → Under place i → i < n → v ≤ f i) → Sifted f g n place v
  unfolding Ordered OrderedBut
  sift_stays s down = record {
    settled = λ o.
        record {
          replaced = rests s o.inside (λ p i u y _ _. o.ordered p i u y) o.above down;
          before = λ i y. s.other i (omega arith);
          rises = λ i ne. omega (arith, s.other i ne);
          least = λ x y z. omega (arith, s.here);
        };
  }

  -- the child's entry comes up, and v sinks from there
  pub sift_goes_on : {m : ℕ → ℕ} {n c : ℕ} → Chosen f n place c → f c < v → Stored f m place (f c) → Sifted m g n c v → Sifted f g n place v
  sift_goes_on ch l s k = record { settled = λ o. sift_on o ch l s (k.settled (sift_raises o ch l s)) }

  -- v sinks from the child's place, and the child's entry comes up
  pub sift_goes : {m : ℕ → ℕ} {n c : ℕ} → Chosen f n place c → f c < v → Sifted f m n c v → Stored m g place (f c) → Sifted f g n place v
  unfolding Ordered
  sift_goes {n = n} {c = c} ch l k s = record {
    settled = λ o.
        let first : f place ≤ f c = o.ordered place c ch.under ch.inside in
        sift_up o ch l (k.settled (record { inside = ch.inside; ordered = o.ordered; above = λ p u. let z : p ≡ place = omega arith in omega (arith, ap f z, first) })) s;
  }

module _ {f g : ℕ → ℕ} {n v : ℕ} (o : Heap f n) where
  pub pushed : n < 16 → Climbed f g n v → Pushed f g n v
  unfolding Ordered OrderedBut
  pushed l c =
      let t = c.settled (n + 1) (record {
        inside = omega arith;
        ordered = λ p i u x ni np. o.ordered p i u (omega arith);
        below = λ i u x. absurd (omega arith);
        over = λ p i u x y. absurd (omega arith);
      }) in
      record {
        heap = record { small = omega arith; ordered = t.ordered };
        kept = λ k. omega (arith, t.kept k, count_more f k n);
      }

  pub topped : 0 < n → Sifted f g n 0 v → Topped f g n v
  topped l c =
      let t = (c.settled (record { inside = l; ordered = o.ordered; above = λ p u. absurd (omega arith) })).replaced in
      record { heap = record { small = o.small; ordered = t.ordered }; kept = t.kept }

-- the last entry takes the place of the top; where it is the top, nothing is left
pub popped : {f g : ℕ → ℕ} {n : ℕ} → Heap f n → 0 < n → Sifted f g (n - 1) 0 (f (n - 1)) → Popped f g n
unfolding Ordered
popped {f} {g} {n} o l c =
    let q : n - 1 + 1 ≡ n = omega arith in
    let all : (k : ℕ) → one k (f (n - 1)) + count k f (n - 1) ≡ count k f n = λ k. sym (count_more f k (n - 1)) ∙ ap (count k f) q in
    by_eq (n - 1) 0
    (λ z. record {
      heap = rw z heap_none;
      kept = λ k. omega (
        arith,
        all k,
        ap (count k g) z,
        ap (count k f) z,
        ap (λ i. one k (f i)) z,
        count_none f k,
        count_none g k,
      );
    })
    (λ nz.
    let t = (c.settled (record { inside = omega arith; ordered = λ p i u x. o.ordered p i u (omega arith); above = λ p u. absurd (omega arith) })).replaced in
    record {
      heap = record { small = omega (arith, o.small); ordered = t.ordered };
      kept = λ k. omega (arith, t.kept k, all k);
    })
