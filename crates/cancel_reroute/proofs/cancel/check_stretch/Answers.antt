use Rattle.std.proofs.Common.{◌∙◌, ap}
use Rattle.delay_model.specs.Cuts.{up_to}
use Rattle.delay_model.specs.Events.{is_event}
use Rattle.delay_model.specs.Refusals.{any_reported}
use Rattle.train_nodes.proofs.FromCalls.{since-call}
use Rattle.cancel_reroute.proofs.cancel.check_stretch.Goals as goal

pub loop-event-init : goal.loop-event-init
loop-event-init c =
    let a = c.args in
    let all = c.into_iter-event-iterator.ensures.into_iter_gives ∙ c.events_from-event-items.ensures in
    rw (all, c.trains.ensures.trains) (ap (λ es. any_reported (up_to (is_event a.arrival.now) es)) (since-call a.g.now.state a.departure.now).0)
