-- What a walk needs of a join's sweep: where it begins, and what it finds, by cases. Assumes nothing.
use Prim.Native.Nat.{ℕ, ◌+◌, ◌≤◌}
use mathlib.Core.Path.{◌≡◌, sym, ap, ◌∙◌, subst}
use mathlib.Core.List.{List}
use lib.IntN.{pos}
use lib.ListN.{length, replicate}
use Rattle.std.specs.declared.option.Option.{Option}
use Rattle.std.specs.declared.option.Option.TheVariants.{None, Some}
use Rattle.rules.specs.Piece.{Range, AllWellFormed}
use Rattle.rules.specs.Lists.{Width}
use Rattle.rules.specs.Sweep.{events}
use Rattle.slots.specs.Slots.{Slots, active}
use Rattle.slots.specs.Stretch.{Stretch, NoStretch}
use Rattle.slots.proofs.Slots.{active_none, nones_count}
use Rattle.multiway_sweep.specs.Steps.{Reading}
use Rattle.multiway_sweep.specs.declared.Range.{Range as Span}
use Rattle.multiway_sweep.proofs.Front.{front_first}
use Rattle.join_sweep.specs.Stretches.{after, moment_of, places, Ready, Joining, Finds}
use Rattle.join_sweep.specs.declared.JoinSweepMut.{JoinSweepMut}

-- a join begins before the first stretch
pub joining_first : {P : Type 0} {w : Width P} {c : Reading P} {ls : List (List Range)} {j : JoinSweepMut} → AllWellFormed w.points ls → length ls ≤ 16 → Ready w c j (events ls) → Joining w c ls j (moment_of j.state.last_end)
joining_first {w = w} {ls = ls} {j = j} wf few r =
    let e = active_none (replicate 16 (pos 0)) 16 ls in
    rw r.first
    (record {
      formed = wf;
      current_long = ap (λ (s : Slots). length s.current) r.blank;
      present_long = ap (λ (s : Slots). length s.present) r.blank;
      counted = record { few = few; count = rw (r.blank, e) (r.idle ∙ sym (nones_count ls)) };
      left = events ls;
      front = rw (r.blank, e) (front_first w.points ls wf);
      holds = r.holds;
    })

-- a stretch is found, and the join stands at its end
pub record Found {P : Type 0} (w : Width P) (c : Reading P) (ls : List (List Range)) (k : ℕ) (j : JoinSweepMut) (x : Span) : Type 0 where
  pub stretch : Stretch w.points ls k (active (length ls) (places j)) x.start x.end
  pub joining : Joining w c ls j (moment_of j.state.last_end)
  pub after_it : after j.state.last_end ≡ x.end + 1

-- a stretch and the sweep at its end, or none is left
module _ {P : Type 0} (w : Width P) (c : Reading P) (ls : List (List Range)) (k : ℕ) (j : JoinSweepMut) {r : Option Span} where
  pub finds_next : {x : Span} → r ≡ Some x → Finds w c ls k j r → Found w c ls k j x
  finds_next h f = let q = rw h at f in record { stretch = q.0; joining = subst (λ (m : Option ℕ). Joining w c ls j (moment_of m)) (sym q.1) q.2; after_it = ap after q.1 }

  pub finds_none : r ≡ None → Finds w c ls k j r → NoStretch w.points ls k
  finds_none h f = rw h at f
