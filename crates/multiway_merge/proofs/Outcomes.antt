-- From the judgement of what is lent and the passes to the outcome of a many-way join or selection. Assumes nothing.
use Prim.Native.Nat.{ℕ, pred, ◌+◌, ◌*◌, ◌-◌, ◌≤◌, ◌<◌}
use mathlib.Core.Path.{◌≡◌, refl, sym, ap, subst, ◌∙◌}
use mathlib.Core.Bool.{Bool, true}
use Rattle.std.specs.declared.option.Option.TheVariants.{None, Some}
use Rattle.std.specs.declared.result.Result.TheVariants.{Ok, Err}
use mathlib.Core.List.{List, [], ◌∷◌}
use native.Mathlib.Omega.{arith}
use lib.IntN.{ℤ, pos}
use lib.ListN.{length, get_or}
use borrow.Author.Tests.{le-leb, lt-leb}
use Rattle.std.proofs.Common.{MutBor}
use Rattle.rules.specs.Piece.{Range}
use Rattle.rules.specs.Lists.{Width, Lent, keys, cut, lists, held}
use Rattle.rules.specs.Answer.{Answer, Outcome, leaves}
use Rattle.rules.specs.Refusals.{Formed}
use Rattle.rules.specs.Same.{eq_ℤ}
use Rattle.rules.specs.Merged.{Merged, columns, room, lay}
use Rattle.rules.specs.declared.Lists.{Lists}
use Rattle.rules.specs.declared.Refusal.{Refusal}
use Rattle.rules.specs.declared.Refusal.TheVariants.{NoRoom}
use Rattle.rules.specs.declared.Kind.{Kind}
use Rattle.rules.proofs.Columns.{lists_length, lists_size}
use Rattle.rules.proofs.Refusals.{formed_sound, lists_formed}
use Rattle.rules.proofs.Room.{runs_room}
use Rattle.rules.proofs.Same.{decides_ℤ}
use Rattle.passes.specs.Runs.{Runnable, Ran}
use Rattle.passes.proofs.Runs.{runnable, settled, known_last}
use Rattle.form.specs.Shape.{Judged}
use Rattle.many_way_rules.specs.Operations.{kind_of, rule_of, merged as all_merged}
use Rattle.many_way_rules.specs.Outcomes.{merging}
use Rattle.many_way_rules.specs.declared.Operation.{Operation}
use Rattle.many_way_rules.proofs.Room.{merged_of_none}
use Rattle.multiway_pass.specs.Passes.{lay_if, PutPieces, Mergeable}
use Rattle.multiway_pass.specs.Outputs.{columns_of}
use Rattle.multiway_pass.specs.declared.Output.{Output}
use Rattle.multiway_merge.specs.Zero.{of_none}
use Rattle.multiway_pass.proofs.Columns.{if_nothing, merged_takes}
use Rattle.multiway_pass.proofs.Merges.{nothing_there}

-- all pieces
abbrev pieces : {P : Type 0} → Width P → Operation → Lent P → List Range
pieces w o l = all_merged o w.points (lists w l)

-- what the pass of an operation holds: the columns, the operation, and the lists
abbrev pub Holds : Type 0 → Type 0
Holds P = MutBor (List P) × MutBor (List P) × MutBor (List ℤ) × Operation × Lists P

-- two of them lend the same columns on
abbrev pub Alike : {P : Type 0} → Holds P → Holds P → Type 0
Alike g f = (g.0.ghost_name ≡ f.0.ghost_name) × (g.1.ghost_name ≡ f.1.ghost_name) × (g.2.ghost_name ≡ f.2.ghost_name) × (g.3 ≡ f.3) × (g.4 ≡ f.4)

abbrev pub columns_in : {P : Type 0} → Holds P → Merged P
columns_in f = columns f.0.now f.1.now f.2.now

-- what is said of columns is said of those that are lent
pub said : {P : Type 0} (c : Output P) {a : Answer} {x : Outcome (Merged P)} → leaves a (columns_of c) ≡ x → {i j k : ℕ} → (c.start.ghost_name ≡ i) × (c.end.ghost_name ≡ j) × (c.value.ghost_name ≡ k) → {s e : List P} {v : List ℤ} → (i ≡ c.start.ghost_name → s ≡ c.start.now) → (j ≡ c.end.ghost_name → e ≡ c.end.now) → (k ≡ c.value.ghost_name → v ≡ c.value.now) → leaves a (columns s e v) ≡ x
said c h t s e v = rw (s (sym t.0), e (sym t.1), v (sym t.2)) h

-- over no counts there are no lists
no_lists : {P : Type 0} (w : Width P) (l : Lent P) → length l.counts ≡ 0 → lists w l ≡ []
no_lists w l = go l.counts
  where
    go : (ns : List ℕ) → length ns ≡ 0 → cut (keys w l.starts) (keys w l.ends) (λ i. get_or l.values i (pos 0)) 0 ns ≡ []
    go [] e = refl
    go (n ∷ ns) e = absurd (omega arith)

-- the lists are judged for an operation
module _ {P : Type 0} {w : Width P} {l : Lent P} {k : Kind} (o : Operation) (e : k ≡ kind_of o) where
  -- what is refused leaves the columns
  pub refused : {a : Refusal} {c : Merged P} → Judged w k l (Err a) → leaves (Err a) c ≡ merging w o l c
  unfolding merging
  refused j = rw (← e, sym j.is)

  module _ (j : Judged w k l (Ok tt)) where
    formed : Formed w (kind_of o) l
    formed = rw e at (j.passes refl)

    -- there are no lists
    pub merged_none : length l.counts ≡ 0 → (c : Merged P) {d : Merged P} {a : Answer} → leaves a d ≡ of_none w o c → leaves a d ≡ merging w o l c
    unfolding merging
    merged_none h c p = p ∙ rw (formed_sound w (kind_of o) l formed, no_lists w l h)

    module _ (there : 0 < length l.counts) where
      -- as many as there can be
      most_enough : length (pieces w o l) ≤ 2 * length l.starts - 1
      unfolding all_merged
      most_enough = omega (arith, runs_room eq_ℤ (rule_of o) w.points (lists w l) decides_ℤ (lists_formed formed) (nothing_there o (lists w l) (omega (arith, lists_length w l))), lists_size w l, formed.agree.adds_up)

      module _ {Step : Holds P → Bool → ℕ → Holds P → Type 0} (steps : (f : Holds P) (b : Bool) (n : ℕ) (g : Holds P) → Step f b n g → Alike g f × PutPieces (lay w) b 0 (pieces w f.3 (held f.4)) (columns_in f) (columns_in g) n) (f : Holds P) (is : f.3 ≡ o) (lent : held f.4 ≡ l) {space : ℕ} (q : space ≡ room (columns_in f)) where
        abbrev done : Bool → Merged P → Merged P
        done b = lay_if (lay w) b 0 (pieces w o l)

        told : (h : Holds P) (b : Bool) (n : ℕ) (g : Holds P) → Alike h f → Step h b n g → Alike g f × (n ≡ length (pieces w o l)) × (columns_in g ≡ done b (columns_in h))
        told h b n g k s =
            let t = steps h b n g s in
            let u = t.0 in
            let p = subst (λ m. PutPieces (lay w) b 0 (pieces w o m) (columns_in h) (columns_in g) n) (ap held k.4 ∙ lent) (rw (k.3 ∙ is) at t.1) in
            ((u.0 ∙ k.0, u.1 ∙ k.1, u.2 ∙ k.2, u.3 ∙ k.3, u.4 ∙ k.4), omega (arith, p.count), p.is)

        -- where nothing is refused the passes can be run
        pub merges : {Pre : Holds P → Bool → Type 0} → ((g : Holds P) (b : Bool) → Mergeable w g.3 (held g.4) b (columns_in g) → Pre g b) → Runnable Step (2 * length l.starts - 1) space Pre f
        merges pre =
            runnable {room = space} most_enough (λ g. Alike g f) columns_in done (λ c. refl) told {f = f} (refl, refl, refl, refl, refl)
            (λ g b h y m. pre g b (rw (h.3 ∙ is, ap held h.4 ∙ lent, y) (record { formed = formed; lists_some = there; roomy = λ t. omega (arith, m t, q) })))

        -- and then they settle it
        pub merged : {g : Holds P} {a : Answer} → Ran Step (2 * length l.starts - 1) space f g a → (leaves a (columns_in g) ≡ merging w o l (columns_in f)) × Alike g f
        unfolding merging
        merged t =
            let k : Alike f f = (refl, refl, refl, refl, refl) in (
              settled most_enough (λ g. Alike g f) columns_in done (λ c. refl) told k t ∙ rw (formed_sound w (kind_of o) l formed, q) refl,
              known_last most_enough (λ g. Alike g f) columns_in done (λ c. refl) told k t,
            )

-- over zero lists an operation says of the whole line what it says of no lists
module _ {P : Type 0} (w : Width P) (o : Operation) (some-point : 0 < w.points) (c : Merged P) where
  pub none_nothing : None ≡ rule_of o [] → leaves (Ok 0) c ≡ of_none w o c
  none_nothing e = rw (merged_of_none o w.points some-point, ← e, le-leb 0 (room c) (omega arith), if_nothing (merged_takes w) 0 true c)

  module _ {v : ℤ} (e : Some v ≡ rule_of o []) where
    pub none_lacks : room c ≡ 0 → leaves (Err (NoRoom 1)) c ≡ of_none w o c
    none_lacks h = rw (merged_of_none o w.points some-point, ← e, lt-leb 1 (room c) (omega arith))

    pub none_whole : 0 < room c → {greatest : ℕ} {d : Merged P} {r : ℕ} → PutPieces (lay w) true 0 (record { start = 0; end = greatest; value = v } ∷ []) c d r → greatest + 1 ≡ w.points → leaves (Ok r) d ≡ of_none w o c
    none_whole h {greatest} p g = let q : pred w.points ≡ greatest = omega arith in rw (merged_of_none o w.points some-point, ← e, q, le-leb 1 (room c) (omega arith), p.count, p.is)
