-- `two_way_pass::pass` meets its contract: the pieces laid and those that are left are all pieces. Assumes nothing.
use mathlib.Core.Path.{refl}
use native.Mathlib.Omega.{arith}
use Rattle.two_way_pass.proofs.Laying.{going_first, going_few, going_writable, going_more, going_last}
use Rattle.two_way_pass.proofs.Same.{same, same_again}
use Rattle.two_way_pass.proofs.pass.Goals as goal
use Rattle.two_way_pass.proofs.pass.Goals.{then-write, else-write}

pub loop-pair-init : goal.loop-pair-init
loop-pair-init g c = (
  going_first c.requires.formed refl (λ e. omega (arith, c.requires.roomy.enough e)) (rw c.two_lists-lists.ensures at c.begin-cursor.ensures),
  same c.args.columns.now,
)

pub next_piece-requires : goal.next_piece-requires
next_piece-requires g c = rw c.two_lists-lists.ensures c.loop-pair.invariant.0.ready

pub returns-clause-passed : goal.returns-clause-passed
returns-clause-passed g c =
    let e = going_last c.loop-pair.invariant.0 (rw c.two_lists-lists.ensures at c.next_piece.ensures) c.in_default.is in record { count = e.0; laid = e.1 }

pub overflow_add-count : goal.overflow_add-count
overflow_add-count g c =
    omega (arith, going_few c.loop-pair.invariant.0 (rw c.two_lists-lists.ensures at c.next_piece.ensures) c.in-Some.is)

pub loop-pair-preserved : goal.loop-pair-preserved
loop-pair-preserved g c = (
  going_more c.loop-pair.invariant.0 (rw c.two_lists-lists.ensures at c.next_piece.ensures) c.in-Some.is {place = c.loop-pair.count} (omega arith) (elim c.if-write.branch [
    | then-write w ↦ rw (w.columns-is, w.if-write.true) w.put.ensures.put.is
    | else-write w ↦ rw (w.columns-is, w.if-write.false) refl
  ]),
  elim c.if-write.branch [
    | then-write w ↦ rw w.columns-is (same_again w.put.ensures.same c.loop-pair.invariant.1)
    | else-write w ↦ rw w.columns-is c.loop-pair.invariant.1
  ],
)

pub put-requires : goal.put-requires
put-requires g c =
    going_writable c.loop-pair.invariant.0 (rw c.two_lists-lists.ensures at c.next_piece.ensures) c.in-Some.is {place = c.loop-pair.count} (omega arith) c.if-write.true
