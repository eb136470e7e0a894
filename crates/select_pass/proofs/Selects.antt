-- What a selection's pass keeps, event by event: the lists have what is carried, and the points up to the first that the next event can bear on are dealt with. Assumes nothing.
use Prim.Native.Nat.{ℕ, ◌+◌, ◌*◌, ◌≤◌, ◌<◌}
use mathlib.Core.Path.{◌≡◌, refl, sym, ap, ◌∙◌, subst}
use mathlib.Core.Logic.{◌⊎◌, inl, inr}
use mathlib.Core.Bool.{Bool, false}
use Rattle.std.specs.declared.option.Option.{Option}
use Rattle.std.specs.declared.option.Option.TheVariants.{None, Some}
use mathlib.Core.List.{List, [], ◌∷◌}
use native.Mathlib.Omega.{arith}
use lib.IntN.{ℤ, pos}
use lib.ListN.{length, get_or, length-map, length-replicate, get_or-map}
use Rattle.rules.specs.Piece.{Range, column, present, there, AllWellFormed, Within}
use Rattle.rules.specs.Lists.{Width, Lent, lists}
use Rattle.rules.specs.Same.{eq_ℤ}
use Rattle.rules.specs.Runs.{says}
use Rattle.rules.specs.Answer.{least}
use Rattle.rules.specs.Merged.{Merged, lengths, lay}
use Rattle.rules.specs.Sweep as rules
use Rattle.rules.specs.Sweep.{events}
use Rattle.rules.specs.Proving.Below.{nones}
use Rattle.rules.specs.Proving.Moments.{moment}
use Rattle.rules.specs.Refusals.{Formed}
use Rattle.rules.specs.declared.Kind.{Kind}
use Rattle.rules.proofs.Columns.{lists_length}
use Rattle.rules.proofs.Refusals.{lists_formed}
use Rattle.std.proofs.lemmas.Option.{none-some}
use Rattle.rules.proofs.Sweep.{kind_small}
use Rattle.many_way_rules.specs.declared.Admission.{Admission}
use Rattle.many_way_rules.specs.declared.Pick.TheVariants.{Highest}
use Rattle.many_way_rules.specs.declared.Operation.TheVariants.{Select}
use Rattle.active_lists.specs.Active.{has}
use Rattle.active_lists.proofs.Stands.{stands_same, stands_idle}
use Rattle.slots.proofs.Slots.{count_none}
use Rattle.slots.specs.Stretch.{Stretch, NoStretch}
use Rattle.multiway_sweep.specs.Front.{edge, apply, Front}
use Rattle.multiway_sweep.specs.Begins.{Begins}
use Rattle.multiway_sweep.specs.Steps.{event_of, reads, Sweeping, Stepped}
use Rattle.multiway_sweep.specs.declared.Range.{Range as Span}
use Rattle.multiway_sweep.specs.declared.Event.{Event}
use Rattle.multiway_sweep.specs.declared.Event.TheVariants.{Start, End}
use Rattle.multiway_sweep.specs.declared.Sweep.{Sweep}
use Rattle.multiway_sweep.proofs.Front.{front_first, front_length, front_column, front_last, front_take, front_list, front_point, front_starts, front_ends}
use Rattle.multiway_pass.specs.Pieces.{PushedOn}
use Rattle.multiway_pass.specs.Passes.{Puttable, PutPieces}
use Rattle.multiway_sweep.proofs.Begun.{events_count, begun}
use Rattle.multiway_pass.proofs.Merges.{lists_few, merge}
use Rattle.multiway_pass.proofs.Walks.{Walk, Going, skipped, turn_silent, turn_apart, turn_puttable, turn_more}
use Rattle.select_pass.specs.Stretches.{StretchesTo}
use Rattle.select_pass.specs.Selections.{Held, Carried, Blank, chosen, recorded, Fits, Takes}
use Rattle.select_pass.specs.declared.Selection.{Selection}
use Rattle.select_pass.proofs.Stretches.{Bears, bears}

-- where a stretch starts: at p; or no list has anything, or p is past the line
abbrev pub StartsFrom : ℕ → List (List Range) → Held → ℕ → Option ℕ → Type 0
StartsFrom points ls act p (Some s) = s ≡ p
StartsFrom points ls act p None = (act ≡ nones ls) ⊎ (p ≡ points)

-- what is left and what the lists have, with the points below p dealt with: n events are left, and the last one taken bears on no point below p
pub record Selecting {P : Type 0} (w : Width P) (l : Lent P) (a : Sweep) (s : Selection) (n p : ℕ) : Type 0 where
  pub formed : AllWellFormed w.points (lists w l)
  pub moment : ℕ
  pub low : moment ≤ 2 * p
  pub high : 2 * p ≤ moment + 1
  pub act : Held
  pub left : List (rules.Event ℤ)
  pub front : Front (lists w l) moment left act
  pub sweeping : Sweeping w (reads l) a left
  pub carried : Carried s act
  pub counted : n ≡ length left
  pub start : StartsFrom w.points (lists w l) act p s.stretch_start

-- a selection's walk, and its rule
abbrev pub selection : {P : Type 0} → Width P → Admission → Lent P → Bool → Merged P → Walk ℤ ℤ (Merged P)
selection w a l write c = merge w (Select Highest a) l write c

-- where no list has anything
nones_length : (ls : List (List Range)) → length (nones ls) ≡ length ls
nones_length ls = length-map ls (λ l. None)

none_at : (ls : List (List Range)) (i : ℕ) → get_or (nones ls) i None ≡ None
none_at ls i = get_or-map (λ l. None) ls i []

nothing_at : (ls : List (List Range)) (i : ℕ) → has (nones ls) i ≡ false
nothing_at ls i = ap there (none_at ls i)

module _ {P : Type 0} {w : Width P} {l : Lent P} {a : Sweep} {s : Selection} {n p : ℕ} (g : Selecting w l a s n p) where
  abbrev ls : List (List Range)
  ls = lists w l

  -- so many lists are lent
  pub held_length : length g.act ≡ length l.counts
  held_length = front_length w.points ls g.formed g.front ∙ lists_length w l

  -- a step took the first of the events that are left
  pub record Taking (b : Sweep) (e : Event) : Type 0 where
    pub rest : List (rules.Event ℤ)
    pub is : g.left ≡ event_of e ∷ rest
    pub past : Sweeping w (reads l) b rest
    pub fits : Fits e g.act

  pub taking : {b : Sweep} (e : Event) → Stepped w (reads l) a b g.left (Some e) → Taking b e
  taking (Start r list v) t =
      let k = t.1 in
      let f = rw k.1 at g.front in
      record { rest = k.0; is = k.1; past = k.2; fits = (omega (arith, front_list w.points ls g.formed f, front_length w.points ls g.formed f), front_starts w.points ls g.formed f) }
  taking (End key list) t =
      let k = t.1 in
      let f = rw k.1 at g.front in
      record { rest = k.0; is = k.1; past = k.2; fits = (omega (arith, front_list w.points ls g.formed f, front_length w.points ls g.formed f), ap there (front_ends w.points ls g.formed f).1) }

  -- it took none
  pub none_taken : (b : Sweep) → Stepped w (reads l) a b g.left None → n ≡ 0
  none_taken b t = omega (arith, g.counted, ap length t.1)

  -- none is left
  pub over : n ≡ 0 → NoStretch w.points ls p
  over h q u m = go g.left refl
    where
      go : (es : List (rules.Event ℤ)) → g.left ≡ es → column ls q ≡ nones ls
      go [] e = let f = rw e at g.front in front_column w.points ls g.formed f q (omega (arith, g.low)) tt ∙ front_last w.points ls g.formed f
      go (x ∷ xs) e = absurd (omega (arith, g.counted, ap length e))

  module _ {b : Sweep} {e : Event} (k : Taking b e) where
    abbrev x : rules.Event ℤ
    x = event_of e

    ahead : Front ls g.moment (x ∷ k.rest) g.act
    ahead = rw k.is at g.front

    upto : p ≤ edge x
    upto = omega (arith, ahead.high.0, g.high, kind_small x)

    inside : edge x ≤ w.points
    inside = omega (arith, front_point w.points ls g.formed ahead, kind_small x)

    -- up to it the lists have what is carried
    same_on : (q : ℕ) → p ≤ q → q < edge x → column ls q ≡ g.act
    same_on q u m = let s = kind_small x in front_column w.points ls g.formed ahead q (omega (arith, g.low)) (omega arith)

    -- the stretch before it
    module _ (y : Span) (t : StretchesTo (Some e) s.stretch_start (Some y)) where
      bounds : (y.start ≡ p) × (y.start < edge x) × (y.end + 1 ≡ edge x)
      bounds = (rw t.0 at g.start, t.1, t.2)

      stretch : Stretch w.points ls p g.act y.start y.end
      stretch = let i = bounds in record { later = omega arith; order = omega arith; below = omega (arith, inside); gap = λ q u m. absurd (omega arith); on = λ q u m. same_on q (omega arith) (omega arith) }

    -- there is none
    silent : (rule : List (Option ℤ) → Option ℤ) → rule (nones ls) ≡ None → StretchesTo (Some e) s.stretch_start None → (q : ℕ) → p ≤ q → q < edge x → says rule ls q ≡ None
    silent rule r t q u m = ap rule (same_on q u m) ∙ go s.stretch_start refl g.start
      where
        go : (from : Option ℕ) → s.stretch_start ≡ from → StartsFrom w.points ls g.act p from → rule g.act ≡ None
        go (Some f) h i = absurd (omega (arith, t f h))
        go None h (inl i) = ap rule i ∙ r
        go None h (inr i) = absurd (omega (arith, inside))

    -- the piece of the stretch before it, or none
    module _ (adm : Admission) (write : Bool) (first : Merged P) {d : Merged P} {waits : List Range} {place : ℕ} (i : Going (selection w adm l write first) d waits place p) where
      abbrev Then : Merged P → List Range → ℕ → Type 0
      Then d' waits' place' = Going (selection w adm l write first) d' waits' place' (edge x)

      -- there is none: nothing is said up to the event
      pub none_going : (o : Option Span) → StretchesTo (Some e) s.stretch_start o → [] ≡ recorded (chosen adm g.act) o → Then d waits place
      none_going None t h = skipped i (edge x) upto inside (silent (chosen adm) i.ok.nothing t)
      none_going (Some y) t h = subst (Going (selection w adm l write first) d waits place) (bounds y t).2 (go (chosen adm g.act) refl h)
        where
          go : (o : Option ℤ) → chosen adm g.act ≡ o → [] ≡ recorded o (Some y) → Going (selection w adm l write first) d waits place (y.end + 1)
          go None v h = turn_silent i (stretch y t) v
          go (Some b) v h = absurd (omega (arith, ap length h))

      -- there is one: it is pushed to what waits, and what is done then is put
      module _ (f : Option Span) (t : StretchesTo (Some e) s.stretch_start f) {y : Range} (h : y ∷ [] ≡ recorded (chosen adm g.act) f) where
        shown : (z : Span) × StretchesTo (Some e) s.stretch_start (Some z) × (y.start ≡ z.start) × (y.end ≡ z.end) × (chosen adm g.act ≡ Some y.value)
        shown = go f (chosen adm g.act) refl t h
          where
            go : (f : Option Span) (o : Option ℤ) → chosen adm g.act ≡ o → StretchesTo (Some e) s.stretch_start f → y ∷ [] ≡ recorded o f → (z : Span) × StretchesTo (Some e) s.stretch_start (Some z) × (y.start ≡ z.start) × (y.end ≡ z.end) × (chosen adm g.act ≡ Some y.value)
            go None o v t h = absurd (omega (arith, ap length h))
            go (Some z) None v t h = absurd (omega (arith, ap length h))
            go (Some z) (Some b) v t h = let q : y.value ≡ b = cc in (z, t, cc, cc, v ∙ ap Some (sym q))

        pub one_apart : Within 0 y.start waits
        one_apart = let q = shown in rw q.2 (turn_apart i (stretch q.0 q.1))

        module _ {next : List Range} {last : Range} (u : PushedOn eq_ℤ waits y next last) where
          pub one_puttable : Puttable w.points (least (lengths d)) write place next
          one_puttable = let q = shown in turn_puttable i (stretch q.0 q.1) u q.2 q.3 q.4

          pub one_going : {d' : Merged P} {place' : ℕ} → PutPieces (lay w) write place next d d' place' → Then d' (last ∷ []) place'
          one_going v = let q = shown in subst (Going (selection w adm l write first) _ (last ∷ []) _) (bounds q.0 q.1).2 (turn_more i (stretch q.0 q.1) u q.2 q.3 q.4 v)

    -- it is taken: the next stretch starts where it bears on the lists
    module _ {t : Selection} (greatest : ℕ) (h : Takes (Some e) greatest s t) (last : greatest + 1 ≡ w.points) where
      carried : Carried t (apply x g.act)
      carried = (h g.act g.carried k.fits).0

      took : Front ls (moment x) k.rest (apply x g.act)
      took = front_take w.points ls g.formed ahead

      starts_from : (o : Option ℕ) → Bears e (length (present (apply x g.act))) greatest o → StartsFrom w.points ls (apply x g.act) (edge x) o
      starts_from (Some f) t = t
      starts_from None (inl t) = inl (count_none (apply x g.act) ls (front_length w.points ls g.formed took) t)
      starts_from None (inr t) = inr (omega (arith, inside))

      pub next : {m : ℕ} → m + 1 ≡ n → Selecting w l b t m (edge x)
      next q =
          let v = kind_small x in
          record {
            formed = g.formed;
            moment = moment x;
            low = omega arith;
            high = omega arith;
            act = apply x g.act;
            left = k.rest;
            front = took;
            sweeping = k.past;
            carried = carried;
            counted = omega (arith, g.counted, ap length k.is);
            start = starts_from t.stretch_start (bears e (length (present (apply x g.act))) greatest (h g.act g.carried k.fits).1);
          }

-- before the first event
pub selecting_first : {P : Type 0} (w : Width P) {k : Kind} {l : Lent P} → Formed w k l → {a : Sweep} → Begins w l.starts l.counts a → {s : Selection} → Blank s → {n : ℕ} → n ≡ 2 * length l.starts → Selecting w l a s n 0
selecting_first w {l = l} f b {s} h q =
    let ls = lists w l in
    let few = lists_few f in
    let long = length-replicate 16 (pos 0) in
    record {
      formed = lists_formed f;
      moment = 0;
      low = omega arith;
      high = omega arith;
      act = nones ls;
      left = events ls;
      front = front_first w.points ls (lists_formed f);
      sweeping = begun f b;
      carried = record { few = omega (arith, nones_length ls); long = ap length h.current ∙ long; stands = rw h.active (stands_same stands_idle (λ i v. sym (nothing_at ls i))); values = λ i v e. absurd (none-some v (sym (none_at ls i) ∙ e)) };
      counted = q ∙ sym (events_count f);
      start = rw h.start (inl refl);
    }
