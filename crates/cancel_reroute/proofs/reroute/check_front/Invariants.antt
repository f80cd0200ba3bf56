use Rattle.std.proofs.Common.{◌≡◌}
use Rattle.delay_model.specs.Cuts.{up_to}
use Rattle.delay_model.specs.Events.{is_event, train_events}
use Rattle.cancel_reroute.specs.Ranks.{rank_along, last_of}
use Rattle.cancel_reroute.proofs.reroute.check_front.Given as goal

-- the edges so far are not against rank
abbrev pub invariant-loop-event : goal.invariant-loop-event
invariant-loop-event l =
    let left = up_to (is_event l.departure) l.event-iterator in
    let all = up_to (is_event l.departure) (train_events l.g.state l.departure.train) in
    record {
      rank : rank_along l.g.network.opts l.check.last left ≡ rank_along l.g.network.opts l.fn.check.last all;
      last : last_of l.check.last left ≡ last_of l.fn.check.last all;
    }
