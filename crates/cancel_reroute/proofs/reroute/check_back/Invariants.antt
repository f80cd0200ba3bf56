use Rattle.std.proofs.Common.{◌≡◌}
use Rattle.delay_model.specs.Cuts as Cuts
use Rattle.delay_model.specs.Events.{is_event, train_events}
use Rattle.cancel_reroute.specs.Ranks.{rank_along}
use Rattle.edge_rules.proofs.Walks.{from_once}
use Rattle.cancel_reroute.proofs.reroute.check_back.Given as goal

-- the edges so far are not against rank
abbrev pub invariant-loop-event : goal.invariant-loop-event
invariant-loop-event l =
    rank_along l.g.network.opts l.check.last (from_once l.arrived (is_event l.arrival) l.event-iterator)
    ≡ rank_along l.g.network.opts l.fn.check.last (Cuts.from (is_event l.arrival) (train_events l.g.state l.arrival.train))
