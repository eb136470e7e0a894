-- Events written at the front of columns, one after the other. Assumes nothing.
use Prim.Native.Nat.{ℕ, suc, ◌+◌, ◌*◌, ◌≤◌, ◌<◌}
use mathlib.Core.Path.{◌≡◌, refl, sym, ap, ◌∙◌}
use mathlib.Core.List.{List, [], ◌∷◌}
use Rattle.std.specs.declared.option.Option.{Option}
use Rattle.std.specs.declared.option.Option.TheVariants.{None, Some}
use native.Mathlib.Omega.{arith}
use lib.IntN.{ℤ}
use lib.ListN.{length, take, drop, set, length-take, take-append-drop}
use lib.Seq.{take_all}
use Rattle.rules.specs.Piece.{Piece, AllWellFormed}
use Rattle.rules.specs.Lists.{Width, Lent, lists}
use Rattle.rules.specs.Answer.{laid}
use Rattle.rules.specs.Sweep as rules
use Rattle.rules.specs.Sweep.{point, kind, list, own, listed, events, All}
use Rattle.rules.specs.Listed.{Listed, event_value, lengths, lay}
use Rattle.rules.specs.Proving.Long.{Long}
use Rattle.rules.proofs.Columns.{lists_length}
use Rattle.rules.proofs.Fronts.{drop_lt, drop_more, drop_none, laid_long, laid_more, same_room}
use Rattle.rules.proofs.Sweep.{all_both, all_append, all_right, all_sort, own_list, own_point}
use Rattle.multiway_sweep.specs.Steps.{reads, event_of, Sweeping, Took, TakesNext}
use Rattle.multiway_sweep.specs.Sweeps.{NewSweep}
use Rattle.multiway_sweep.specs.Begins.{events_of}
use Rattle.multiway_sweep.specs.declared.Event.{Event}
use Rattle.multiway_sweep.specs.declared.Sweep.{Sweep}
use Rattle.rules.proofs.Refusals.{lists_formed}
use Rattle.multiway_sweep.proofs.Begun.{events_count, events_few, begun}
use Rattle.event_listing.specs.Listing.{RowOf, Same, Writable, PutRow, Listable, Wrote}
use Rattle.event_listing.specs.declared.Row.{Row}
use Rattle.event_listing.specs.declared.Columns.{Columns}

module _ {A : Type 0} where
  -- an event's point is one of n, and its list one of m
  abbrev Small : ℕ → ℕ → rules.Event A → Type 0
  Small n m e = (point e < n) × (list e < m)

  listed_small : (k n m : ℕ) (ls : List (List (Piece A))) → AllWellFormed n ls → k + length ls ≤ m → All (Small n m) (listed k ls)
  listed_small k n m [] w h = tt
  listed_small k n m (l ∷ ls) w h = all_append _ (own k l) (listed (suc k) ls) (all_both (λ e p q. (p, omega arith)) (own k l) (own_point k 0 n l w.0) (own_list k l)) (listed_small (suc k) n m ls w.1 (omega arith))

  events_small : (n : ℕ) (ls : List (List (Piece A))) → AllWellFormed n ls → All (Small n (length ls)) (events ls)
  unfolding events
  events_small n ls w = all_sort _ (listed 0 ls) (listed_small 0 n (length ls) ls w (omega arith))

-- the columns are lent by the same throughout
module _ {P : Type 0} where
  pub same_none : (a : Columns P) → Same a a
  same_none a = record { kind = refl; point = refl; list = refl; value = refl }

  pub same_more : {a b c : Columns P} → Same a b → Same b c → Same a c
  same_more s t = record { kind = t.kind ∙ s.kind; point = t.point ∙ s.point; list = t.list ∙ s.list; value = t.value ∙ s.value }

-- n events are written, and the sweep s stands before the rest
pub record Written {P : Type 0} (w : Width P) (l : Lent P) (c d : Listed P) (s : Sweep) (n : ℕ) : Type 0 where
  pub listable : Listable w l c
  pub sweeping : Sweeping w (reads l) s (drop n (events_of w l))
  pub written : d ≡ lay w 0 (take n (events_of w l)) c

module _ {P : Type 0} {w : Width P} {l : Lent P} {c : Listed P} where
  pub written_none : Listable w l c → {s : Sweep} → NewSweep w l s → Written w l c c s 0
  written_none g b = record { listable = g; sweeping = begun g.formed b; written = refl }

  module _ {d : Listed P} {s : Sweep} {n : ℕ} (f : Written w l c d s n) where
    -- the columns keep their lengths
    pub written_long : Long (lengths d) (lengths c)
    written_long =
        let h = f.listable.enough in
        let k = length-take n (events_of w l) in
        rw f.written (
          laid_long kind 0 (take n (events_of w l)) c.kind (omega arith),
          (
            laid_long (λ e. w.point (point e)) 0 (take n (events_of w l)) c.point (omega arith),
            (
              laid_long list 0 (take n (events_of w l)) c.list (omega arith),
              (
                laid_long event_value 0 (take n (events_of w l)) c.value (omega arith),
                tt,
              ),
            ),
          ),
        )

    pub written_all : 2 * length l.starts ≤ n → Wrote w l c d
    written_all h = record { is = f.written ∙ ap (λ es. lay w 0 es c) (take_all n (events_of w l) (omega (arith, events_count f.listable.formed))) }

    -- an event is next, and a sweep stands before what is left then
    module _ {e : rules.Event ℤ} {b : Sweep} (k : Took w (reads l) b e (drop n (events_of w l))) where
      written_lt : n < length (events_of w l)
      written_lt = drop_lt (events_of w l) n e k.0 k.1

      small : Small w.points (length (lists w l)) e
      small = (all_right (Small w.points (length (lists w l))) (take n (events_of w l)) (e ∷ k.0) (rw (sym k.1, take-append-drop n (events_of w l)) (events_small w.points (lists w l) (lists_formed f.listable.formed)))).0

      few : list e < 256
      few = omega (arith, small.1, lists_length w l, f.listable.formed.lists_few)

      written_row : {r : Row} → RowOf e r → Writable w n r d
      written_row o = record { place = omega (arith, written_lt, f.listable.enough, same_room (lengths d) (lengths c) written_long); point = omega (arith, small.0, o.key) }

      -- one column more
      more : {A : Type 0} (g : rules.Event ℤ → A) (old : List A) {now new : List A} {v : A} → length (events_of w l) ≤ length old → now ≡ laid 0 g (take n (events_of w l)) old → v ≡ g e → new ≡ set now n v → new ≡ laid 0 g (take (n + 1) (events_of w l)) old
      more g old h p q k' = let z : 0 + n ≡ n = omega arith in k' ∙ rw (p, q) (rw z at (laid_more g 0 (events_of w l) n e k.0 old k.1 (omega arith)))

      written_more : {r : Row} → RowOf e r → {d' : Listed P} → PutRow w n r d d' → Written w l c d' b (n + 1)
      written_more o p =
          let h = f.listable.enough in
          record {
            listable = f.listable;
            sweeping = rw (drop_more (events_of w l) n e k.0 k.1) k.2;
            written = λ i. record {
              kind = more kind c.kind (omega arith) (ap (λ x. x.kind) f.written) o.kind p.kind i;
              point = more (λ e. w.point (point e)) c.point (omega arith) (ap (λ x. x.point) f.written) (ap w.point o.key) p.point i;
              list = more list c.list (omega arith) (ap (λ x. x.list) f.written) o.list p.list i;
              value = more event_value c.value (omega arith) (ap (λ x. x.value) f.written) o.value p.value i;
            };
          }

    -- a step takes the next event, if one is left
    module _ (b : Sweep) {t : Option Event} (st : TakesNext w (reads l) s b t) where
      pub none_taken : n < 2 * length l.starts → t ≡ None → ⊥
      none_taken h q = omega (arith, drop_none (events_of w l) n (rw q at (st _ f.sweeping)).1, events_count f.listable.formed)

      module _ {x : Event} (q : t ≡ Some x) where
        took : Took w (reads l) b (event_of x) (drop n (events_of w l))
        took = (rw q at (st _ f.sweeping)).1

        pub list_few : list (event_of x) < 256
        list_few = few took

        pub taken_few : n < 4096
        taken_few = omega (arith, written_lt took, events_few f.listable.formed)

        -- its row is r
        module _ {r : Row} (o : RowOf (event_of x) r) where
          pub taken_row : Writable w n r d
          taken_row = written_row took o

          pub taken_more : {d' : Listed P} → PutRow w n r d d' → Written w l c d' b (n + 1)
          taken_more = written_more took o
