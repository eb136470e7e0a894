-- `multiway_pass::rule_on` meets its contract. Assumes nothing.
use Rattle.slots.specs.Slots.{slots_of, active}
use Rattle.multiway_pass.proofs.Rulings.{counted_present, not_admitted, admitted_with}
use Rattle.multiway_pass.proofs.rule_on.Goals as goal

pub returns-then-not-admits : goal.returns-then-not-admits
returns-then-not-admits c =
    let s = slots_of c.args.current.now c.args.present.now in
    not_admitted c.args.admission c.args.combiner c.args.lists s (c.admits.ensures (active c.args.lists s) (counted_present c.requires)) c.if-not-admits.true

pub returns : goal.returns
returns c =
    let s = slots_of c.args.current.now c.args.present.now in
    admitted_with c.args.admission c.args.combiner c.args.lists s (c.admits.ensures (active c.args.lists s) (counted_present c.requires)) c.if-not-admits.false c.requires.few c.combine.ensures
