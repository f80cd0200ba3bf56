use Rattle.edge_rules.proofs.Words.{◌∙◌, refl}
use Rattle.edge_rules.proofs.Walks.{between-from}
use Rattle.edge_rules.proofs.indexing.remove_between.Goals as goal

pub loop-event-init : goal.loop-event-init
loop-event-init c =
    let a = c.args in
    let all = c.into_iter-event-iterator.ensures.into_iter_gives ∙ c.events_from-event-items.ensures in
    rw (all, c.departure-departure.ensures, c.arrival-arrival.ensures, between-from a.trains.now a.t a.from a.to) (c.requires, refl)
