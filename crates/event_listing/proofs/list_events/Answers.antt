-- `list_events` meets its contract. Assumes nothing.
use mathlib.Core.Path.{sym}
use borrow.Author.Rules.{rules}
use Rattle.std.proofs.Common.{arith}
use Rattle.std.proofs.lemmas.Result.{err_from_is_err_and}
use Rattle.rules.specs.Lists.{held}
use Rattle.event_listing.proofs.Outcome.{refused, no_room, listable, written}
use Rattle.event_listing.proofs.list_events.Goals as goal

pub returns-in_err-judge : goal.returns-in_err-judge
returns-in_err-judge g c =
    let p = err_from_is_err_and c.from_residual.result c.from_residual.ensures.1 in
    rw (p.1, p.2) (refused g.P.Integer.width (held c.args.lent) c.in_err-judge.ensures)

pub returns-in_err-events : goal.returns-in_err-events
returns-in_err-events g c =
    let p = err_from_is_err_and c.from_residual-in_err-events.result c.from_residual-in_err-events.ensures.1 in
    rw (p.1, p.2) (no_room g.P.Integer.width (held c.args.lent) c.in_ok-judge.ensures _ (omega arith) c.in_err-events.ensures)

pub write_events-requires : goal.write_events-requires
write_events-requires g c = listable g.P.Integer.width (held c.args.lent) c.in_ok-judge.ensures _ (omega arith) c.in_ok-events.ensures

pub returns : goal.returns
returns g c =
    let same = c.write_events.ensures.same in
    let all = written g.P.Integer.width (held c.args.lent) c.in_ok-judge.ensures _ (omega arith) c.in_ok-events.ensures c.write_events.ensures.wrote in
    all (search (rules, sym same.kind), search (rules, sym same.point), search (rules, sym same.list), search (rules, sym same.value))
