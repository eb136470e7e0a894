-- A join or a selection as a walk: pieces of whole pence, laid into columns of starts, ends and values from the first place on. Assumes nothing.
use Prim.Native.Nat.{ℕ, ◌≤◌, ◌<◌}
use mathlib.Core.Path.{◌≡◌, sym, ◌∙◌}
use mathlib.Core.Bool.{Bool}
use Rattle.std.specs.declared.option.Option.{Option}
use Rattle.std.specs.declared.option.Option.TheVariants.{None}
use mathlib.Core.List.{List, [], ◌∷◌}
use native.Mathlib.Omega.{arith}
use lib.IntN.{ℤ}
use lib.ListN.{length}
use Rattle.rules.specs.Piece.{Range}
use Rattle.rules.specs.Lists.{Width, Lent, lists}
use Rattle.rules.specs.Refusals.{Formed}
use Rattle.rules.specs.Same.{eq_ℤ}
use Rattle.rules.specs.Merged.{Merged, lengths, lay}
use Rattle.rules.specs.Proving.Below.{nones}
use Rattle.rules.specs.declared.Kind.{Kind}
use Rattle.rules.proofs.Columns.{lists_length, lists_size}
use Rattle.rules.proofs.Refusals.{lists_formed}
use Rattle.rules.proofs.Same.{decides_ℤ}
use Rattle.many_way_rules.specs.Operations.{rule_of, merged}
use Rattle.many_way_rules.specs.declared.Operation.{Operation}
use Rattle.many_way_rules.proofs.Room.{rule_nones, merged_enough}
use Rattle.slots.specs.Slots.{Slots, active, Counted}
use Rattle.slots.specs.Stretch.{Stretch}
use Rattle.multiway_pass.specs.Passes.{PutPieces, Mergeable}
use Rattle.multiway_pass.proofs.Columns.{merged_takes}
use Rattle.multiway_pass.proofs.Walks.{Walk, pieces, Walkable}

-- lists that the form checker passed
module _ {P : Type 0} {w : Width P} {k : Kind} {l : Lent P} (f : Formed w k l) where
  pub lists_few : length (lists w l) ≤ 16
  lists_few = omega (arith, lists_length w l, f.lists_few)

  -- they are as many as their counts
  pub lists_counted : {n : ℕ} {s : Slots} → Counted (length (lists w l)) n s → Counted (length l.counts) n s
  lists_counted c = rw (lists_length w l) at c

-- where there is a list, no operation admits a point at which none has anything
pub nothing_there : (o : Operation) (ls : List (List Range)) → 0 < length ls → rule_of o (nones ls) ≡ None
nothing_there o [] h = absurd (omega arith)
nothing_there o (l ∷ ls) h = rule_nones o l ls

abbrev pub merge : {P : Type 0} → Width P → Operation → Lent P → Bool → Merged P → Walk ℤ ℤ (Merged P)
merge w o l write c = record { same = eq_ℤ; rule = rule_of o; points = w.points; lists = lists w l; lengths = lengths; lay = lay w; write = write; from = 0; columns = c }

module _ {P : Type 0} {w : Width P} {o : Operation} {l : Lent P} {write : Bool} {c : Merged P} (j : Mergeable w o l write c) where
  pub walkable : Walkable (merge w o l write c)
  unfolding merged
  walkable =
      record {
        law = decides_ℤ;
        takes = merged_takes w;
        formed = lists_formed j.formed;
        nothing = nothing_there o (lists w l) (omega (arith, lists_length w l, j.lists_some));
        roomy = λ t. omega (arith, j.roomy t);
        few = omega (arith, merged_enough o w.points (lists w l) (lists_formed j.formed) (omega (arith, lists_size w l, j.formed.agree.adds_up, j.formed.ranges_few)));
      }

  -- its pieces are the operation's
  pub all_merged : {d : Merged P} {r : ℕ} → PutPieces (lay w) write 0 (pieces (merge w o l write c)) c d r → PutPieces (lay w) write 0 (merged o w.points (lists w l)) c d r
  unfolding merged
  all_merged p = p

  -- what it says of a stretch
  module _ (s : Slots) {k start end : ℕ} (t : Stretch w.points (lists w l) k (active (length (lists w l)) s) start end) (q : Option ℤ) (e : q ≡ rule_of o (active (length l.counts) s)) where
    pub says : {r : Option ℤ} → q ≡ r → rule_of o (active (length (lists w l)) s) ≡ r
    says h = rw (lists_length w l) (sym e ∙ h)
