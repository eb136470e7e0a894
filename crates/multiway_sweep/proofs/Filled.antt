-- Laying the cursors of lists one after the other: once all are laid the sweep stands at its beginning. Assumes nothing.
use Prim.Native.Nat.{ℕ, zero, suc, ◌+◌, ◌-◌, ◌<◌, ◌≤◌}
use mathlib.Core.Path.{◌≡◌, refl, sym, ap, ◌∙◌}
use mathlib.Core.Logic.{◌⊎◌, inl, inr}
use mathlib.Core.Bool.{cond}
use Rattle.std.specs.declared.option.Option.{Option}
use Rattle.std.specs.declared.option.Option.TheVariants.{None, Some}
use mathlib.Core.List.{List, [], ◌∷◌}
use native.Mathlib.Omega.{arith}
use native.Mathlib.Numerals.{add-one}
use lib.Dec.{ltb}
use lib.IntN.{pos}
use lib.ListN.{length, get_or, take, set, length-set, get_or-eq_default}
use lib.Seq.{get_or-set_same, get_or-set_other}
use borrow.Author.Count.{below_more}
use borrow.Author.Tests.{lt-ltb, le-ltb}
use Rattle.heap.specs.Heap.{rank, ranks}
use Rattle.heap.specs.Moved.{Pushed}
use Rattle.heap.specs.Order.{count}
use Rattle.heap.specs.declared.Heap.{Heap}
use Rattle.heap.proofs.Laws.{by_eq, count_none}
use Rattle.rules.specs.Piece.{Piece, AllWellFormed}
use Rattle.rules.specs.Lists.{Width, keys, ranges, cut, total}
use Rattle.rules.specs.Sweep.{events}
use Rattle.rules.proofs.At.{le_or_lt}
use Rattle.rules.proofs.Columns.{cut_length}
use Rattle.multiway_sweep.specs.Cursors.{fresh, fresh_all}
use Rattle.multiway_sweep.specs.Stands.{Entered, times, first_start, at, actives, Stands}
use Rattle.multiway_sweep.specs.Steps.{course, next_at, stop_at}
use Rattle.multiway_sweep.specs.Begins.{Begins}
use Rattle.multiway_sweep.specs.declared.Course.{Course}
use Rattle.multiway_sweep.specs.declared.Sweep.{Sweep}
use Rattle.multiway_sweep.proofs.Cursors.{left_first}
use Rattle.multiway_sweep.proofs.Entered.{entered_pushed, entered_same}

-- lists that lie end to end: where each begins, and that all lie before their total
total_take : (k : ℕ) (ns : List ℕ) → total (take (k + 1) ns) ≡ total (take k ns) + get_or ns k 0
total_take k ns = rw add-one (go k ns)
  where
    go : (k : ℕ) (ns : List ℕ) → total (take (suc k) ns) ≡ total (take k ns) + get_or ns k 0
    go zero [] = refl
    go (suc k) [] = refl
    go zero (n ∷ ns) = omega arith
    go (suc k) (n ∷ ns) = omega (arith, go k ns)

total_upto : (k : ℕ) (ns : List ℕ) → total (take k ns) ≤ total ns
total_upto zero ns = omega arith
total_upto (suc k) [] = omega arith
total_upto (suc k) (n ∷ ns) = omega (arith, total_upto k ns)

module _ {A : Type 0} (s e : ℕ → ℕ) (v : ℕ → A) where
  cut_at : (p i m : ℕ) (ns : List ℕ) → m ≡ p + total (take i ns) → get_or (cut s e v p ns) i [] ≡ ranges s e v m (get_or ns i 0)
  cut_at p i m [] q = refl
  cut_at p zero m (n ∷ ns) q = let z : m ≡ p = omega arith in rw z
  cut_at p (suc i) m (n ∷ ns) q = cut_at (p + n) i m ns (omega arith)

module _ {A : Type 0} where
  fresh_length : (ls : List (List (Piece A))) → length (fresh_all ls) ≡ length ls
  fresh_length [] = refl
  fresh_length (l ∷ ls) = ap suc (fresh_length ls)

  fresh_at : (i : ℕ) (ls : List (List (Piece A))) → at (fresh_all ls) i ≡ fresh (get_or ls i [])
  fresh_at i [] = refl
  fresh_at zero (l ∷ ls) = refl
  fresh_at (suc i) (l ∷ ls) = fresh_at i ls

  fresh_idle : (ls : List (List (Piece A))) → actives (fresh_all ls) ≡ 0
  fresh_idle [] = refl
  fresh_idle (l ∷ ls) = omega (arith, fresh_idle ls)

entered_empty : {h : Heap} {f : ℕ → Option ℕ} → h.len ≡ 0 → ((i : ℕ) → f i ≡ None) → Entered h f
entered_empty {h} z q = record { has = λ key list l. ap (count (rank key list) (ranks h.places)) z ∙ count_none (ranks h.places) (rank key list) ∙ ap (λ o. times o key) (sym (q list)) }

-- the first start of a list of n ranges
abbrev opening : ℕ → ℕ → Option ℕ
opening key zero = None
opening key (suc n) = Some key

opening_some : (key n : ℕ) → 0 < n → opening key n ≡ Some key
opening_some key zero h = absurd (omega arith)
opening_some key (suc n) h = refl

opening_first : {A : Type 0} (s e : ℕ → ℕ) (v : ℕ → A) (i n : ℕ) → first_start (ranges s e v i n) ≡ opening (s i) n
opening_first s e v i zero = refl
opening_first s e v i (suc n) = refl

module _ (s : ℕ → ℕ) (ns : List ℕ) where
  -- the first start of the list i, if it is one of the first k
  abbrev opens : ℕ → ℕ → Option ℕ
  opens k i = cond (ltb i k) (opening (s (total (take i ns))) (get_or ns i 0)) None

  opens_other : (k i : ℕ) → (i ≡ k → ⊥) → opens (k + 1) i ≡ opens k i
  opens_other k i ne = go (le_or_lt k i)
    where
      go : (k ≤ i) ⊎ (i < k) → opens (k + 1) i ≡ opens k i
      go (inl h) = rw (le-ltb i (k + 1) (omega arith), le-ltb i k h)
      go (inr h) = rw (lt-ltb i (k + 1) (omega arith), lt-ltb i k h)

  -- the courses of the first k lists are laid, and the next list begins at a place
  pub record Laid (long : ℕ) (courses : List Course) (h : Heap) (k from : ℕ) : Type 0 where
    pub few : length ns ≤ 16
    pub adds_up : total ns ≡ long
    pub below : k ≤ length ns
    pub small : h.len ≤ k
    pub begins : from ≡ total (take k ns)
    pub courses_long : length courses ≡ 16
    pub next_laid : (i : ℕ) → i < k → next_at courses i ≡ total (take i ns)
    pub stop_laid : (i : ℕ) → i < k → stop_at courses i ≡ total (take (i + 1) ns)
    pub firsts : Entered h (opens k)

  pub laid_none : {long : ℕ} {courses : List Course} {h : Heap} → length ns ≤ 16 → total ns ≡ long → length courses ≡ 16 → h.len ≡ 0 → Laid long courses h 0 0
  laid_none few adds_up courses_long empty = record {
    few = few;
    adds_up = adds_up;
    below = omega arith;
    small = omega arith;
    begins = refl;
    courses_long = courses_long;
    next_laid = λ i l. absurd (omega arith);
    stop_laid = λ i l. absurd (omega arith);
    firsts = entered_empty empty (λ i. rw (le-ltb i 0 (omega arith)));
  }

  -- one more list
  module _ {long : ℕ} {courses : List Course} {h : Heap} {k from : ℕ} (g : Laid long courses h k from) (more : k < length ns) where
    abbrev stop : ℕ
    stop = from + get_or ns k 0

    abbrev onward : List Course
    onward = set courses k (record { next = from; stop = stop })

    own : course onward k ≡ record { next = from; stop = stop }
    own = get_or-set_same courses k _ _ (omega (arith, g.few, g.courses_long))

    other : (i : ℕ) → i < k → course onward i ≡ course courses i
    other i l = get_or-set_other courses k i _ _ (λ q. omega arith)

    ends_at : stop ≡ total (take (k + 1) ns)
    ends_at = omega (arith, g.begins, total_take k ns)

    pub laid_within : stop ≤ long
    laid_within = omega (arith, g.adds_up, ends_at, total_upto (k + 1) ns)

    laid_more : {r : Heap} → r.len ≤ k + 1 → Entered r (opens (k + 1)) → Laid long onward r (k + 1) stop
    laid_more l f = record {
      few = g.few;
      adds_up = g.adds_up;
      below = omega arith;
      small = l;
      begins = ends_at;
      courses_long = length-set courses k _ ∙ g.courses_long;
      next_laid = below_more _ k (λ i l. ap (λ x. x.next) (other i l) ∙ g.next_laid i l) (ap (λ x. x.next) own ∙ g.begins);
      stop_laid = below_more _ k (λ i l. ap (λ x. x.stop) (other i l) ∙ g.stop_laid i l) (ap (λ x. x.stop) own ∙ ends_at);
      firsts = f;
    }

    pub laid_empty : stop ≤ from → Laid long onward h (k + 1) stop
    laid_empty l = laid_more (omega (arith, g.small)) (entered_same same g.firsts)
      where
        same : (i : ℕ) → opens (k + 1) i ≡ opens k i
        same i = by_eq i k (λ q. let z : get_or ns i 0 ≡ 0 = omega (arith, ap (λ j. get_or ns j 0) q) in rw (lt-ltb i (k + 1) (omega arith), z, le-ltb i k (omega arith))) (opens_other k i)

    pub laid_push : {r : Heap} {key : ℕ} → from < stop → key ≡ s from → Pushed h r (rank key k) → Laid long onward r (k + 1) stop
    laid_push {key = key} l q p = laid_more (omega (arith, g.small, p.longer)) (entered_pushed g.firsts k (omega (arith, g.few)) (opens_other k) (rw (le-ltb k k (omega arith))) first p)
      where
        first : opens (k + 1) k ≡ Some key
        first = rw (lt-ltb k (k + 1) (omega arith), ← g.begins, ← q, opening_some key (get_or ns k 0) (omega arith))

-- all lists are laid
module _ {A : Type 0} (n : ℕ) (s e : ℕ → ℕ) (v : ℕ → A) (ns : List ℕ) where
  abbrev ls : List (List (Piece A))
  ls = cut s e v 0 ns

  all_laid : {long : ℕ} {courses : List Course} {h q : Heap} {k from : ℕ} → Laid s ns long courses h k from → length ns ≤ k → q.len ≡ 0 → AllWellFormed n ls → Stands n s e v long (record { next = next_at courses; stops = stop_at courses; starts = h; active_ends = q }) (events ls)
  all_laid {courses = courses} {k = k} g all z wf = record {
    cursors = fresh_all ls;
    few = omega (arith, g.few, all_of);
    past = (left_first n ls wf).0;
    lies = λ i h.
        let p = g.next_laid i (omega (arith, all_of)) in
        let d : stop_at courses i - next_at courses i ≡ get_or ns i 0 = omega (arith, p, g.stop_laid i (omega (arith, all_of)), total_take i ns) in
        as_cut i ∙ rw (d, p);
    inside = λ i h. omega (arith, g.adds_up, g.stop_laid i (omega (arith, all_of)), total_upto (i + 1) ns);
    entered_starts = entered_same opened g.firsts;
    entered_ends = entered_empty z (λ i. ap (λ c. c.active) (fresh_at i ls));
    counted = z ∙ sym (fresh_idle ls);
    is_left = (left_first n ls wf).1;
  }
    where
      all_of : length (fresh_all ls) ≡ length ns
      all_of = fresh_length ls ∙ cut_length s e v 0 ns

      as_cut : (i : ℕ) → (at (fresh_all ls) i).ranges ≡ ranges s e v (total (take i ns)) (get_or ns i 0)
      as_cut i = ap (λ c. c.ranges) (fresh_at i ls) ∙ cut_at s e v 0 i _ ns (omega arith)

      opened : (i : ℕ) → first_start (at (fresh_all ls) i).ranges ≡ opens s ns k i
      opened i = ap first_start (as_cut i) ∙ opening_first s e v (total (take i ns)) (get_or ns i 0) ∙ go (le_or_lt k i)
        where
          go : (k ≤ i) ⊎ (i < k) → opening (s (total (take i ns))) (get_or ns i 0) ≡ opens s ns k i
          go (inl h) = let l : length ns ≤ i = omega arith in rw (get_or-eq_default ns 0 l, le-ltb i k h)
          go (inr h) = rw (lt-ltb i k h)

pub filled : {P : Type 0} (w : Width P) {starts : List P} {ns : List ℕ} {s : Sweep} {k from : ℕ} → Laid (keys w starts) ns (length starts) s.courses s.starts k from → length ns ≤ k → s.active_ends.len ≡ 0 → Begins w starts ns s
filled w {starts} {ns} g all empty ends values p q wf = record {
  starts_long = p;
  ends_long = q;
  courses_long = g.courses_long;
  stands = rw (sym p) (all_laid w.points (keys w starts) (keys w ends) (λ i. get_or values i (pos 0)) ns g all empty wf);
}
