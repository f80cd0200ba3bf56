use Rattle.std.proofs.Common.{None, ap, arith, sym, ◌∙◌, ◌≡◌}
use Rattle.delay_model.specs.Refusals.{any_reported}
use Rattle.train_nodes.proofs.EventLemmas.{live-there}
use Rattle.train_nodes.proofs.FromCalls.{since-call}
use Rattle.cancel_reroute.proofs.RerouteLemmas.{none-behind}
use Rattle.cancel_reroute.proofs.reroute.check_behind.Goals as goal

pub next_report-requires : goal.next_report-requires
next_report-requires c = rw c.trains-trains.ensures.trains (live-there c.args.g.now.state c.args.n.now c.requires)

pub returns-then-is_none : goal.returns-then-is_none
returns-then-is_none c =
    let none : c.next_report.result ≡ None = grind (arith, c.is_none.ensures, c.if-is_none.true) in
    none-behind c.args.g.now.state c.args.n.now (rw c.trains-trains.ensures.trains at (sym c.next_report.ensures ∙ none))

pub loop-event-init : goal.loop-event-init
loop-event-init c =
    let a = c.args in
    let all = c.into_iter-event-iterator.ensures.into_iter_gives ∙ c.events_from-event-items.ensures in
    rw (all, c.trains-trains.ensures.trains) (ap any_reported (since-call a.g.now.state a.n.now).1)
