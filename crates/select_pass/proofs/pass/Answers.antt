-- `select_pass::pass` meets its contract: event by event, the pieces done and the one pending say what the rule says of the points dealt with. Assumes nothing.
use native.Mathlib.Omega.{arith}
use Rattle.multiway_sweep.specs.Steps.{whole}
use Rattle.multiway_pass.proofs.Outputs.{same_first, same_then}
use Rattle.multiway_pass.proofs.Walks.{going_first, last_puttable, walked}
use Rattle.multiway_pass.proofs.Merges.{walkable, all_merged}
use Rattle.select_pass.proofs.Carried.{carried_on, takes_on}
use Rattle.select_pass.proofs.Selects.{selecting_first, held_length, taking, none_taken, over, one_apart, one_puttable, one_going, none_going, next}
use Rattle.select_pass.proofs.pass.Goals as goal
use Rattle.select_pass.proofs.pass.Goals.{else-loop-test, then-loop-test+in_default, in-Some-next, in_default-next}

-- no list is active
pub loop-init : goal.loop-init
loop-init g c = (0, selecting_first g.P.Integer.width c.requires.formed c.new-sweep.ensures.begins c.new-selection.ensures (omega arith), going_first (walkable c.requires), same_first)

-- the event is taken
pub take-requires : goal.take-requires
take-requires g c =
    let i = c.loop.invariant.1 in
    (i.act, carried_on c.emit-next.ensures.same i.carried, (taking i c.in-Some.event (c.in-Some.ensures.next _ i.sweeping)).fits)

-- there is a piece: it is pushed to what is pending, and what is done is put
pub push_merged-pushed-requires : goal.push_merged-pushed-requires
push_merged-pushed-requires g c =
    let i = c.loop.invariant.1 in
    let k = taking i c.in-Some.event (c.in-Some.ensures.next _ i.sweeping) in
    one_apart i k c.args.admission c.args.write _ c.loop.invariant.2 _ c.stretch_before-stretch.ensures (c.in-Some-next.ensures.piece i.act i.carried (held_length i))

pub put-count-requires : goal.put-count-requires
put-count-requires g c =
    let i = c.loop.invariant.1 in
    let k = taking i c.in-Some.event (c.in-Some.ensures.next _ i.sweeping) in
    one_puttable i k c.args.admission c.args.write _ c.loop.invariant.2 _ c.stretch_before-stretch.ensures (c.in-Some-next.ensures.piece i.act i.carried (held_length i)) c.push_merged-pushed.ensures

pub loop-preserved : goal.loop-preserved
loop-preserved g c =
    let i = c.loop.invariant.1 in
    let k = taking i c.in-Some.event (c.in-Some.ensures.next _ i.sweeping) in
    let n = next i k c.greatest_key.result (takes_on c.emit-next.ensures.same _ _ c.take.ensures) c.greatest_key.ensures (omega (arith, c.loop-test.true)) in
    elim c.match-next.branch [
      | in-Some-next w ↦
          rw (w.out-is, w.pending-is, w.count-is)
          (_, n, one_going i k c.args.admission c.args.write _ c.loop.invariant.2 _ c.stretch_before-stretch.ensures (w.in-Some-next.ensures.piece i.act i.carried (held_length i)) w.push_merged-pushed.ensures w.put-count.ensures.put, same_then c.loop.invariant.3 w.put-count.ensures.same)
      | in_default-next w ↦
          rw (w.out-is, w.pending-is, w.count-is)
          (_, n, none_going i k c.args.admission c.args.write _ c.loop.invariant.2 _ c.stretch_before-stretch.ensures (w.in_default-next.ensures.piece i.act i.carried (held_length i)), c.loop.invariant.3)
    ]

-- none is left: what is pending is put
pub put-requires : goal.put-requires
put-requires g c =
    let i = c.loop.invariant.1 in
    elim c.loop-test.branch [
      | else-loop-test w ↦ last_puttable c.loop.invariant.2 (over i (omega (arith, w.loop-test.false)))
      | then-loop-test+in_default w ↦ last_puttable c.loop.invariant.2 (over i (none_taken i (whole w.step.new.self) (w.in_default.ensures.next _ i.sweeping)))
    ]

-- all pieces are put
pub returns : goal.returns
returns g c =
    let i = c.loop.invariant.1 in
    record {
      same = same_then c.loop.invariant.3 c.put.ensures.same;
      put = elim c.loop-test.branch [
        | else-loop-test w ↦ all_merged c.requires (walked c.loop.invariant.2 (over i (omega (arith, w.loop-test.false))) c.put.ensures.put)
        | then-loop-test+in_default w ↦ all_merged c.requires (walked c.loop.invariant.2 (over i (none_taken i (whole w.step.new.self) (w.in_default.ensures.next _ i.sweeping))) c.put.ensures.put)
      ];
    }
