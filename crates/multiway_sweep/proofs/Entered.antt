-- A heap that holds the keys of lists: its top is the least of them, and it changes as one list's key does. Assumes nothing.
use Prim.Native.Nat.{ℕ, ◌+◌, ◌<◌, ◌≤◌}
use mathlib.Core.Path.{◌≡◌, refl, sym, ap, ◌∙◌}
use Rattle.std.specs.declared.option.Option.{Option}
use Rattle.std.specs.declared.option.Option.TheVariants.{None, Some}
use native.Mathlib.Omega.{arith}
use Rattle.heap.specs.Order.{one, count}
use Rattle.heap.specs.Heap.{rank, ranks}
use Rattle.heap.specs.Moved.{top, many, Pushed, Popped, Topped}
use Rattle.heap.specs.declared.Heap.{Heap}
use Rattle.heap.proofs.Laws.{by_eq, rank_le, rank_one, one_same, one_other, count_at, count_none, top_counted}
use Rattle.multiway_sweep.specs.Stands.{times, Entered}

times_some : (o : Option ℕ) (k : ℕ) → 0 < times o k → o ≡ Some k
times_some None k h = absurd (omega arith)
times_some (Some p) k h = by_eq p k (λ q. ap {B = Option ℕ} Some q) (λ ne. absurd (omega (arith, one_other p k ne)))

module _ {h : Heap} {f : ℕ → Option ℕ} (g : Entered h f) where
  -- the entry on top is its list's
  pub entered_top : (key list : ℕ) → list < 256 → 0 < h.len → top h ≡ rank key list → f list ≡ Some key
  entered_top key list l z q = times_some (f list) key (omega (arith, count_at (ranks h.places) h.len 0 z, ap (many h) q, g.has key list l))

  -- and no list has a lesser key, or the same key and a lower index
  pub entered_least : (key list i q : ℕ) → i < 256 → top h ≡ rank key list → f i ≡ Some q → (key ≤ q) × (key ≡ q → list ≤ i)
  entered_least key list i q k t e =
      let c = top_counted (ranks h.places) (rank q i) h.len h.ordered (omega (arith, g.has q i k, ap (λ o. times o q) e, one_same q)) in
      rank_le k (omega arith)

  pub entered_none : h.len ≡ 0 → (i : ℕ) → i < 256 → f i ≡ None
  entered_none z i l = go (f i) refl
    where
      go : (o : Option ℕ) → f i ≡ o → f i ≡ None
      go None e = e
      go (Some p) e = absurd (omega (arith, g.has p i l, ap (λ o. times o p) e, one_same p, ap (count (rank p i) (ranks h.places)) z, count_none (ranks h.places) (rank p i)))

-- how often the entry of rank e stands for what the list j has
abbrev entry : Option ℕ → ℕ → ℕ → ℕ
entry None j e = 0
entry (Some k) j e = one e (rank k j)

entry_own : (o : Option ℕ) (j key : ℕ) → j < 256 → entry o j (rank key j) ≡ times o key
entry_own None j key l = refl
entry_own (Some k) j key l =
    by_eq k key
    (λ q. ap (λ z. one (rank key j) (rank z j)) q ∙ one_same (rank key j) ∙ sym (ap (one k) (sym q) ∙ one_same k))
    (λ ne. one_other (rank key j) (rank k j) (λ q. ne (sym (rank_one l l q).0)) ∙ sym (one_other k key ne))

entry_other : (o : Option ℕ) (j i key : ℕ) → j < 256 → i < 256 → (i ≡ j → ⊥) → entry o j (rank key i) ≡ 0
entry_other None j i key l k ne = refl
entry_other (Some p) j i key l k ne = one_other (rank key i) (rank p j) (λ q. ne (rank_one k l q).1)

-- the key of the list j alone changes
module _ {h r : Heap} {f f' : ℕ → Option ℕ} (g : Entered h f) (j : ℕ) (l : j < 256) (other : (i : ℕ) → (i ≡ j → ⊥) → f' i ≡ f i) where
  pub entered_changed : ((e : ℕ) → many r e + entry (f j) j e ≡ many h e + entry (f' j) j e) → Entered r f'
  entered_changed kept = record { has = has }
    where
      has : (key list : ℕ) → list < 256 → many r (rank key list) ≡ times (f' list) key
      has key list k =
          by_eq list j
          (λ q.
          let a = kept (rank key j) in
          let b = g.has key j l in
          let c = entry_own (f j) j key l in
          let d = entry_own (f' j) j key l in
          ap (λ i. many r (rank key i)) q ∙ omega arith ∙ ap (λ i. times (f' i) key) (sym q))
          (λ ne.
          let a = kept (rank key list) in
          let b = g.has key list k in
          let c = entry_other (f j) j list key l k ne in
          let d = entry_other (f' j) j list key l k ne in
          omega (arith, ap (λ o. times o key) (other list ne)))

  pub entered_pushed : {key : ℕ} → f j ≡ None → f' j ≡ Some key → Pushed h r (rank key j) → Entered r f'
  entered_pushed p q s = entered_changed (λ e. omega (arith, s.kept e, ap (λ o. entry o j e) p, ap (λ o. entry o j e) q))

  pub entered_popped : {key : ℕ} → f j ≡ Some key → f' j ≡ None → top h ≡ rank key j → Popped h r → Entered r f'
  entered_popped p q t s = entered_changed (λ e. omega (arith, s.kept e, ap (one e) t, ap (λ o. entry o j e) p, ap (λ o. entry o j e) q))

  pub entered_topped : {key new : ℕ} → f j ≡ Some key → f' j ≡ Some new → top h ≡ rank key j → Topped h r (rank new j) → Entered r f'
  entered_topped p q t s = entered_changed (λ e. omega (arith, s.kept e, ap (one e) t, ap (λ o. entry o j e) p, ap (λ o. entry o j e) q))

-- no key changes
pub entered_same : {h : Heap} {f f' : ℕ → Option ℕ} → ((i : ℕ) → f' i ≡ f i) → Entered h f → Entered h f'
entered_same same g = record { has = λ key list l. g.has key list l ∙ ap (λ o. times o key) (sym (same list)) }
