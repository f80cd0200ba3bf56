use Rattle.std.proofs.Common.{◌∙◌, ap}
use Rattle.train_nodes.proofs.FromCalls.{since-call}
use Rattle.cancel_reroute.specs.Ranks.{rank_along}
use Rattle.cancel_reroute.proofs.reroute.check_back.Goals as goal

pub loop-event-init : goal.loop-event-init
loop-event-init c =
    let a = c.args in
    let all = c.into_iter-event-iterator.ensures.into_iter_gives ∙ c.events_from-event-items.ensures in
    rw (all, c.trains.ensures.trains) (ap (rank_along a.g.now.network.opts a.check.now.last) (since-call a.g.now.state a.arrival.now).0)
