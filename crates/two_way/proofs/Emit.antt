-- A piece that comes next, taken off: what is left then is what is left past it. Assumes nothing.
use Prim.Native.Nat.{ℕ, ◌+◌, ◌≤◌, ◌<◌}
use mathlib.Core.Path.{◌≡◌, sym}
use mathlib.Core.Bool.{true}
use Rattle.std.specs.declared.option.Option.{Option}
use Rattle.std.specs.declared.option.Option.TheVariants.{None, Some}
use mathlib.Core.List.{List}
use native.Mathlib.Omega.{arith}
use Rattle.rules.specs.Piece.{Piece, at, Within}
use Rattle.rules.specs.TwoWay.{keeps}
use Rattle.rules.specs.declared.Pairing.{Pairing}
use Rattle.rules.proofs.At.{at_early}
use Rattle.rules.proofs.TwoWay.{within_low}
use Rattle.two_way.specs.Sides.{left_place, right_place, View, side, moved, Two, start_at, end_at, stop, left_of, right_of}
use Rattle.two_way.specs.Steps.{Inside, Before, Ready, Covers, Covering, Taken, Stepped}
use Rattle.two_way.specs.declared.Side.{Side}
use Rattle.two_way.specs.declared.Cursor.{Cursor}
use Rattle.two_way.specs.declared.Pair.{Pair}
use Rattle.two_way.proofs.Peel.{Peels, said, said_back, said_nothing, pair_peel}
use Rattle.two_way.proofs.Sides.{here_before, Run, run_by, run_in}

said_kept : (o : Pairing) (a b : Option ℕ) → keeps o (a, b) ≡ true → said o a b ≡ Some (a, b)
said_kept o a b h = rw h

pub inside_low : (a : ℕ) {b : ℕ} (i : Option ℕ) → Inside a i → a ≤ b → Inside b i
inside_low a None h l = tt
inside_low a (Some i) h l = omega arith

module _ {P : Type 0} (t : Two P) where
  -- y is the next piece
  pub record Emits (o : Pairing) (c : View) (y : Pair) : Type 0 where
    pub covering : Covering t c y
    pub order : y.start ≤ y.end
    pub below : y.end < t.width.points
    pub early : (z : ℕ) → z < y.start → said o (at (left_of t c) z) (at (right_of t c) z) ≡ None
    pub kept : keeps o (left_place y, right_place y) ≡ true
    pub edge : at (left_of t c) (y.end + 1) ≡ left_place y → at (right_of t c) (y.end + 1) ≡ right_place y → ⊥

  module _ (k p q : ℕ) where
    covers_run : (i : Option ℕ) (c : Option Side) → p ≤ q → Within 0 t.width.points (side (start_at t) (end_at t) k c) → Covers t k i c p q → Run t.width.points (side (start_at t) (end_at t) k c) (moved (start_at t) (end_at t) k i c q) p q i
    covers_run None c h w v = run_by (start_at t) (end_at t) k t.width.points p q c v
    covers_run (Some i) None h w v = absurd v
    covers_run (Some i) (Some c) h w v = rw (sym v.0) (run_in (start_at t) (end_at t) k t.width.points p q c w v.1 h v.2)

    covers_place : (i : Option ℕ) (c : Option Side) → Before k c → Covers t k i c p q → Inside k i
    covers_place None c b v = tt
    covers_place (Some i) None b v = absurd v
    covers_place (Some i) (Some c) b v = omega (arith, v.0)

module _ {P : Type 0} {t : Two P} {o : Pairing} {c : View} {y : Pair} (m : Emits t o c y) where
  abbrev ready : Ready t c
  ready = m.covering.ready

  abbrev l' : List (Piece ℕ)
  l' = moved (start_at t) (end_at t) t.middle (left_place y) c.left y.end

  abbrev r' : List (Piece ℕ)
  r' = moved (start_at t) (end_at t) (stop t) (right_place y) c.right y.end

  left_run : Run t.width.points (left_of t c) l' y.start y.end (left_place y)
  left_run = covers_run t t.middle y.start y.end (left_place y) c.left m.order ready.left m.covering.left

  right_run : Run t.width.points (right_of t c) r' y.start y.end (right_place y)
  right_run = covers_run t (stop t) y.start y.end (right_place y) c.right m.order ready.right m.covering.right

  peels : Peels t.width.points y.start y.end (left_place y, right_place y) (λ z. said o (at (left_of t c) z) (at (right_of t c) z)) (λ z. said o (at l' z) (at r' z))
  peels =
      record {
        order = m.order;
        below = m.below;
        early = m.early;
        on = λ z h k. let i = left_run.on z h k in let j = right_run.on z h k in rw (i, j) (said_kept o (left_place y) (right_place y) m.kept);
        edge = λ e. let f = said_back o (at (left_of t c) (y.end + 1)) (at (right_of t c) (y.end + 1)) (left_place y, right_place y) e in m.edge f.0 f.1;
        gone = λ z h. let i = at_early (y.end + 1) t.width.points l' left_run.within z (omega arith) in let j = at_early (y.end + 1) t.width.points r' right_run.within z (omega arith) in rw (i, j) (said_nothing o);
        kept = λ z h. let i = left_run.kept z h in let j = right_run.kept z h in rw (i, j);
      }

  -- what `emit` gives is a step
  pub emitted : {r : Pair × Cursor} → Taken t c y r → Stepped t o c (Some r)
  emitted {r} s =
      let u = within_low 0 (y.end + 1) t.width.points l' (omega arith) left_run.within in
      let w = within_low 0 (y.end + 1) t.width.points r' (omega arith) right_run.within in
      let e = pair_peel o t.width.points (left_of t c) (right_of t c) ready.left ready.right l' r' u w y.start y.end (left_place y, right_place y) peels in
      rw s.piece (record {
        next = rw (s.left, s.right) e;
        ready = record { ends_long = ready.ends_long; splits = ready.splits; left_place = here_before t.middle r.1.left; right_place = here_before (stop t) r.1.right; left = rw s.left u; right = rw s.right w };
        fits = record {
          order = m.order;
          below = m.below;
          left = inside_low t.middle (left_place y) (covers_place t t.middle y.start y.end (left_place y) c.left ready.left_place m.covering.left) ready.splits;
          right = covers_place t (stop t) y.start y.end (right_place y) c.right ready.right_place m.covering.right;
        };
      })
