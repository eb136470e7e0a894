-- `combine` meets its contract: each combiner by its number. Assumes nothing.
use mathlib.Core.Path.{refl}
use lib.IntN.{pos}
use lib.ListN.{length}
use Rattle.many_way_rules.specs.Combiners as rules
use Rattle.slots.specs.Slots.{slots_of}
use Rattle.combine.proofs.Laws.{known}
use Rattle.combine.proofs.combine.Goals as goal

pub returns-in-1 : goal.returns-in-1
returns-in-1 c = known 1 rules.sum_of (λ l. refl) (slots_of c.args.current.now c.args.present.now) c.in-1.is c.min-places.ensures c.sum.ensures.is c.sum.type_inv

pub returns-in-2 : goal.returns-in-2
returns-in-2 c = known 2 rules.largest (λ l. refl) (slots_of c.args.current.now c.args.present.now) c.in-2.is c.min-places.ensures c.utmost.ensures c.utmost.type_inv

pub returns-in-3 : goal.returns-in-3
returns-in-3 c = known 3 rules.smallest (λ l. refl) (slots_of c.args.current.now c.args.present.now) c.in-3.is c.min-places.ensures c.utmost-in-3.ensures c.utmost-in-3.type_inv

pub returns-in-4 : goal.returns-in-4
returns-in-4 c = known 4 (λ l. pos (length l)) (λ l. refl) (slots_of c.args.current.now c.args.present.now) c.in-4.is c.min-places.ensures (c.count.ensures c.args.current.now).is c.count.type_inv

pub returns-in-5 : goal.returns-in-5
returns-in-5 c = known 5 rules.mean (λ l. refl) (slots_of c.args.current.now c.args.present.now) c.in-5.is c.min-places.ensures c.mean.ensures c.mean.type_inv
