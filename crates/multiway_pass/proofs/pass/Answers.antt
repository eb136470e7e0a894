-- `multiway_pass::pass` meets its contract: the pieces done and the one pending say what the rule says up to the last stretch. Assumes nothing.
use mathlib.Core.Path.{refl, sym, ap, ◌∙◌}
use Rattle.std.specs.declared.option.Option.TheVariants.{Some}
use mir.Syntax.{w64}
use Rattle.integer.proofs.Laws.{back}
use native.Mathlib.Omega.{arith}
use Rattle.rules.proofs.Refusals.{lists_formed}
use Rattle.join_sweep.proofs.Begins.{joining_first, finds_next, finds_none}
use Rattle.multiway_pass.proofs.Outputs.{same_first, same_then}
use Rattle.multiway_pass.proofs.Walks.{going_first, last_puttable, walked, turn_less, turn_silent, turn_apart, turn_puttable, turn_more}
use Rattle.multiway_pass.proofs.Merges.{lists_few, lists_counted, says, walkable, all_merged}
use Rattle.multiway_pass.proofs.pass.Goals as goal

-- the walk begins
pub loop-range-init : goal.loop-range-init
loop-range-init g c = (joining_first (lists_formed c.requires.formed) (lists_few c.requires.formed) c.new-sweep.ensures.ready, rw c.new-sweep.ensures.ready.first (going_first (walkable c.requires)), same_first)

-- what the join says of the stretch
pub rule_of_stretch-value-requires : goal.rule_of_stretch-value-requires
rule_of_stretch-value-requires g c =
    let t = finds_next g.P.Integer.width _ _ _ _ c.in-Some.is (c.next_stretch.ensures.finds _ c.loop-range.invariant.0) in
    lists_counted c.requires.formed t.joining.counted

-- it is admitted with a value: the piece is pushed to what is pending
pub push_merged-pushed-requires : goal.push_merged-pushed-requires
push_merged-pushed-requires g c =
    let t = finds_next g.P.Integer.width _ _ _ _ c.in-Some.is (c.next_stretch.ensures.finds _ c.loop-range.invariant.0) in
    turn_apart c.loop-range.invariant.1 t.stretch

-- what is done is put
pub put-count-requires : goal.put-count-requires
put-count-requires g c =
    let t = finds_next g.P.Integer.width _ _ _ _ c.in-Some.is (c.next_stretch.ensures.finds _ c.loop-range.invariant.0) in
    turn_puttable c.loop-range.invariant.1 t.stretch c.push_merged-pushed.ensures refl refl (says c.requires _ t.stretch _ c.rule_of_stretch-value.ensures (c.in-Some-value.is ∙ ap Some (sym (back w64 _ (omega arith)))))

-- fewer points are left
pub loop-range-smaller-in-Some-value : goal.loop-range-smaller-in-Some-value
loop-range-smaller-in-Some-value g c =
    let t = finds_next g.P.Integer.width _ _ _ _ c.in-Some.is (c.next_stretch.ensures.finds _ c.loop-range.invariant.0) in
    rw t.after_it (turn_less c.loop-range.invariant.1 t.stretch)

-- the walk goes on
pub loop-range-preserved-in-Some-value : goal.loop-range-preserved-in-Some-value
loop-range-preserved-in-Some-value g c =
    let t = finds_next g.P.Integer.width _ _ _ _ c.in-Some.is (c.next_stretch.ensures.finds _ c.loop-range.invariant.0) in
    (t.joining, rw t.after_it (turn_more c.loop-range.invariant.1 t.stretch c.push_merged-pushed.ensures refl refl (says c.requires _ t.stretch _ c.rule_of_stretch-value.ensures (c.in-Some-value.is ∙ ap Some (sym (back w64 _ (omega arith))))) c.put-count.ensures.put), same_then c.loop-range.invariant.2 c.put-count.ensures.same)

-- it is not admitted: fewer points are left, and the walk goes on
pub loop-range-smaller : goal.loop-range-smaller
loop-range-smaller g c =
    let t = finds_next g.P.Integer.width _ _ _ _ c.in-Some.is (c.next_stretch.ensures.finds _ c.loop-range.invariant.0) in
    rw t.after_it (turn_less c.loop-range.invariant.1 t.stretch)

pub loop-range-preserved : goal.loop-range-preserved
loop-range-preserved g c =
    let t = finds_next g.P.Integer.width _ _ _ _ c.in-Some.is (c.next_stretch.ensures.finds _ c.loop-range.invariant.0) in
    (t.joining, rw t.after_it (turn_silent c.loop-range.invariant.1 t.stretch (says c.requires _ t.stretch _ c.rule_of_stretch-value.ensures c.in_default-value.is)), c.loop-range.invariant.2)

-- none is left: what is pending is put
pub put-requires : goal.put-requires
put-requires g c = last_puttable c.loop-range.invariant.1 (finds_none g.P.Integer.width _ _ _ _ c.in_default.is (c.next_stretch.ensures.finds _ c.loop-range.invariant.0))

-- all pieces are put
pub returns : goal.returns
returns g c =
    record {
      same = same_then c.loop-range.invariant.2 c.put.ensures.same;
      put = all_merged c.requires (walked c.loop-range.invariant.1 (finds_none g.P.Integer.width _ _ _ _ c.in_default.is (c.next_stretch.ensures.finds _ c.loop-range.invariant.0)) c.put.ensures.put);
    }
