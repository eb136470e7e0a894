-- What a value keeps, when a list is marked, enters the heap or leaves it. Assumes nothing.
use Prim.Native.Nat.{ℕ, ◌+◌, ◌-◌, ◌<◌, ◌≤◌}
use mathlib.Core.Path.{◌≡◌, refl, sym, ap, ◌∙◌}
use mathlib.Core.Bool.{Bool, true, false, cond, true≢false}
use mathlib.Core.List.{List}
use native.Mathlib.Omega.{arith}
use lib.ListN.{length, get_or, set, length-set, replicate, get_or-map, get_or-replicate}
use lib.Seq.{map-set_same}
use Rattle.std.proofs.lemmas.List.{map-set, length-map}
use borrow.Author.Rules.{rules}
use denote.Enum.Bare.{sameb, same_true, same_false}
use Rattle.heap.specs.Order.{Ordered, one, count}
use Rattle.heap.specs.Heap.{Heap}
use Rattle.heap.specs.Holes.{Climbed, Sifted}
use Rattle.heap.proofs.Laws.{by_eq, one_same, one_other, count_none, count_at, top_counted, heap_none}
use Rattle.heap.proofs.Moves.{pushed, popped}
use Rattle.active_lists.specs.Active.{nobody, but, bit, number, Alike, HighestIn, members}
use Rattle.active_lists.specs.Kept.{rank, ranks, is_on, is_in, mark, on, active, entered, Fields, Keeps}
use Rattle.active_lists.specs.contracts.Mark.{the_type}
use Rattle.active_lists.specs.declared.Heaped.{Heaped}
use Rattle.active_lists.specs.declared.Mark.{Mark}
use Rattle.active_lists.specs.declared.Mark.TheVariants.{Out, Ended, On}
use Rattle.active_lists.proofs.Sets.{but_here, but_other, number_none, number_same, number_upto, number_but, told_set}

-- the marks of all lists, as a caller sees them
pub seen : (marks : List Mark) (list : ℕ) → members (on marks) list ≡ active marks list
seen marks list = get_or-map is_on marks list Out

pub told_by : {a : List Bool} (marks : List Mark) (list : ℕ) {b : Bool} → on marks ≡ a → members a list ≡ b → active marks list ≡ b
told_by marks list e h = sym (seen marks list) ∙ ap (λ xs. get_or xs list false) e ∙ h

-- one list is marked
pub changed : {a : List Bool} (marks : List Mark) (list : ℕ) (m : Mark) → on marks ≡ a → length marks ≡ 16 → list < 16 → Alike (members (on (set marks list m))) (but (members a) list (is_on m))
changed {a} marks list m e w l i k =
    let h : list < length a = omega (arith, ap length e, length-map marks is_on) in
    ap (λ xs. get_or xs i false) (map-set is_on marks list m ∙ ap (λ xs. set xs list (is_on m)) e) ∙ sym (told_set (λ t. t) false a list (is_on m) h i k)

-- the entry of a list, where there is one
abbrev share : ℕ → ℕ → Bool → ℕ
share e list t = cond t (one e (rank list)) 0

rank_high : {list : ℕ} → list < 16 → 240 ≤ rank list
unfolding rank
rank_high l = omega arith

rank_apart : {i list : ℕ} → i < 16 → list < 16 → (i ≡ list → ⊥) → rank i ≡ rank list → ⊥
unfolding rank
rank_apart l k ne e = ne (omega arith)

share_here : (list : ℕ) (t : Bool) → share (rank list) list t ≡ bit t
share_here list true = one_same (rank list)
share_here list false = refl

share_other : (e list : ℕ) (t : Bool) → (e ≡ rank list → ⊥) → share e list t ≡ 0
share_other e list true ne = one_other e (rank list) ne
share_other e list false ne = refl

-- what a test of two marks tells
pub same_mark : {m n : Mark} → sameb the_type m n ≡ true → m ≡ n
same_mark {m} {n} e = same_true the_type (search rules) m n e

pub other_mark : {m n : Mark} → sameb the_type m n ≡ false → m ≡ n → ⊥
other_mark {m} {n} e = same_false the_type m n e

-- a list that is active is in the heap
on_in : (m : Mark) → is_on m ≡ true → is_in m ≡ true
on_in On e = refl
on_in Ended e = absurd (true≢false (sym e))
on_in Out e = absurd (true≢false (sym e))

off_in : (m : Mark) → is_on m ≡ false → (m ≡ Out → ⊥) → is_in m ≡ true
off_in On e h = refl
off_in Ended e h = refl
off_in Out e h = absurd (h refl)

pub off : (m : Mark) → (m ≡ On → ⊥) → is_on m ≡ false
off On h = absurd (h refl)
off Ended h = refl
off Out h = refl

-- no list is active, and the heap is empty
pub keeps_idle : Keeps (record { heap = record { lists = replicate 16 0 }; marks = replicate 16 Out; len = 0; count = 0 })
keeps_idle =
    let z : (is : Mark → Bool) (i : ℕ) → i < 16 → is (mark (replicate 16 Out) i) ≡ is Out = λ is i l. ap is (get_or-replicate 16 i Out Out l) in
    record {
      whole = refl;
      counts = sym (number_same (active (replicate 16 Out)) nobody (z is_on) ∙ number_none);
      long = sym (number_same (entered (replicate 16 Out)) nobody (z is_in) ∙ number_none);
      ordered = (heap_none {f = ranks (record { lists = replicate 16 0 })}).ordered;
      once = λ i l. rw (z is_in i l) (count_none _ (rank i));
      only = λ e m. absurd (omega (arith, count_none (ranks (record { lists = replicate 16 0 })) e));
    }

module _ {a : Fields} (s : Keeps a) where
  -- the heap is as long as lists were entered
  pub short : a.len ≤ 16
  short = omega (arith, s.long, number_upto (entered a.marks))

  heaped : Heap (ranks a.heap) a.len
  heaped = record { small = short; ordered = s.ordered }

  pub few : a.count ≤ 16
  few = omega (arith, s.counts, number_upto (active a.marks))

  module _ {list : ℕ} (l : list < 16) where
    abbrev was : Bool
    was = entered a.marks list

    told : (is : Mark → Bool) (m : Mark) → Alike (but (λ i. is (mark a.marks i)) list (is m)) (λ i. is (mark (set a.marks list m) i))
    told is m = told_set is Out a.marks list m (omega (arith, s.whole))

    tells : (is : Mark → Bool) (m : Mark) → number (λ i. is (mark (set a.marks list m) i)) + bit (is (mark a.marks list)) ≡ number (λ i. is (mark a.marks i)) + bit (is m)
    tells is m = omega (arith, number_same _ _ (told is m), number_but (λ i. is (mark a.marks i)) list (is m) l)

    -- the one law: the list's mark becomes m, and its entry in the heap goes by that
    marked : (h : Heaped) (n k : ℕ) (m : Mark) → k + bit (active a.marks list) ≡ a.count + bit (is_on m) → n + bit was ≡ a.len + bit (is_in m) → Ordered (ranks h) n → ((e : ℕ) → count e (ranks h) n + share e list was ≡ count e (ranks a.heap) a.len + share e list (is_in m)) → Keeps (record { heap = h; marks = set a.marks list m; len = n; count = k })
    marked h n k m c g o r = record {
      whole = length-set a.marks list m ∙ s.whole;
      counts = omega (arith, tells is_on m, s.counts);
      long = omega (arith, tells is_in m, s.long);
      ordered = o;
      once = λ i j.
          let t : entered (set a.marks list m) i ≡ but (entered a.marks) list (is_in m) i = sym (told is_in m i j) in
          by_eq i list
          (λ e.
          omega (
            arith,
            s.once list l,
            r (rank list),
            share_here list was,
            share_here list (is_in m),
            ap (λ x. count (rank x) (ranks h) n) e,
            ap bit (t ∙ ap (but (entered a.marks) list (is_in m)) e ∙ but_here (entered a.marks) list (is_in m)),
          ))
          (λ ne.
          let na = rank_apart j l ne in
          omega (
            arith,
            s.once i j,
            r (rank i),
            share_other (rank i) list was na,
            share_other (rank i) list (is_in m) na,
            ap bit (t ∙ but_other (entered a.marks) list (is_in m) i ne),
          ));
      only = λ e j.
          by_eq e (rank list)
          (λ q. omega (arith, rank_high l))
          (λ ne. s.only e (omega (arith, r e, share_other e list was ne, share_other e list (is_in m) ne)));
    }

    -- a list in the heap begins or ends
    turns : (k : ℕ) (m : Mark) → was ≡ true → is_in m ≡ true → k + bit (active a.marks list) ≡ a.count + bit (is_on m) → Keeps (record { heap = a.heap; marks = set a.marks list m; len = a.len; count = k })
    turns k m x y c = marked a.heap a.len k m c (omega (arith, ap bit x, ap bit y)) s.ordered (λ e. ap (λ t. count e (ranks a.heap) a.len + share e list t) (x ∙ sym y))

    pub begins_again : active a.marks list ≡ false → (mark a.marks list ≡ Out → ⊥) → Keeps (record { heap = a.heap; marks = set a.marks list On; len = a.len; count = a.count + 1 })
    begins_again f g = turns (a.count + 1) On (off_in (mark a.marks list) f g) refl (omega (arith, ap bit f))

    pub some : active a.marks list ≡ true → 0 < a.count
    some t = omega (arith, s.counts, number_but (active a.marks) list false l, ap bit t)

    pub ends : active a.marks list ≡ true → Keeps (record { heap = a.heap; marks = set a.marks list Ended; len = a.len; count = a.count - 1 })
    ends t = turns (a.count - 1) Ended (on_in (mark a.marks list) t) refl (omega (arith, some t, ap bit t))

    -- one list more is in the heap
    module _ (z : mark a.marks list ≡ Out) where
      pub room : a.len < 16
      room = omega (arith, s.long, number_upto (but (entered a.marks) list true), number_but (entered a.marks) list true l, ap (λ m. bit (is_in m)) z)

      pub enters : (h : Heaped) → Climbed (ranks a.heap) (ranks h) a.len (rank list) → Keeps (record { heap = h; marks = set a.marks list On; len = a.len + 1; count = a.count + 1 })
      enters h r =
          let u = pushed heaped room r in
          marked h (a.len + 1) (a.count + 1) On
          (omega (arith, ap (λ m. bit (is_on m)) z))
          (omega (arith, ap (λ m. bit (is_in m)) z))
          u.heap.ordered
          (λ e. omega (arith, u.kept e, ap (λ m. share e list (is_in m)) z))

  -- a list that is active is in the heap
  on_many : {i : ℕ} → i < 16 → active a.marks i ≡ true → 0 < count (rank i) (ranks a.heap) a.len
  on_many {i} l t = omega (arith, s.once i l, ap bit (on_in (mark a.marks i) t))

  -- the top of the heap
  module _ (nonempty : 0 < a.len) where
    abbrev top : ℕ
    top = get_or a.heap.lists 0 0

    pub top_small : top < 16
    unfolding rank
    top_small = omega (arith, s.only (rank top) (count_at (ranks a.heap) a.len 0 nonempty))

    top_entered : entered a.marks top ≡ true
    top_entered = go (entered a.marks top) refl
      where
        go : (t : Bool) → entered a.marks top ≡ t → t ≡ true
        go true e = refl
        go false e = absurd (omega (arith, s.once top top_small, count_at (ranks a.heap) a.len 0 nonempty, ap bit e))

    -- it is dropped where it ended
    pub leaves : (h : Heaped) → (mark a.marks top ≡ On → ⊥) → Sifted (ranks a.heap) (ranks h) (a.len - 1) 0 (ranks a.heap (a.len - 1)) → Keeps (record { heap = h; marks = set a.marks top Out; len = a.len - 1; count = a.count })
    leaves h ended r =
        let u = popped heaped nonempty r in
        marked top_small h (a.len - 1) a.count Out
        (omega (arith, ap bit (off (mark a.marks top) ended)))
        (omega (arith, ap bit top_entered))
        u.heap.ordered
        (λ e. omega (arith, ap (λ t. share e top t) top_entered, u.kept e))

    -- and the active ones stay
    pub same : (mark a.marks top ≡ On → ⊥) → on (set a.marks top Out) ≡ on a.marks
    same ended = map-set_same is_on a.marks top Out Out (sym (off (mark a.marks top) ended))

    -- it is the highest where it is active
    pub top_highest : mark a.marks top ≡ On → HighestIn (members (on a.marks)) top
    unfolding rank
    top_highest t = record {
      small = top_small;
      inside = seen a.marks top ∙ ap is_on t;
      above = λ i l e.
          let m = on_many l (sym (seen a.marks i) ∙ e) in
          omega (arith, top_counted (ranks a.heap) (rank i) a.len s.ordered m, top_small);
    }

  -- none is active where the heap is empty
  pub none_active : a.len ≤ 0 → (i : ℕ) → i < 16 → members (on a.marks) i ≡ false
  none_active h i l = go (active a.marks i) refl
    where
      go : (t : Bool) → active a.marks i ≡ t → members (on a.marks) i ≡ false
      go false e = seen a.marks i ∙ e
      go true e = let z : a.len ≡ 0 = omega arith in absurd (omega (arith, on_many l e, ap (λ n. count (rank i) (ranks a.heap) n) z, count_none (ranks a.heap) (rank i)))
