use Rattle.std.proofs.Common.{◌≡◌}
use Rattle.delay_model.specs.Cuts as Cuts
use Rattle.delay_model.specs.Cuts.{up_to}
use Rattle.delay_model.specs.Events.{is_event, train_events}
use Rattle.delay_model.specs.Refusals.{any_reported}
use Rattle.edge_rules.proofs.Walks.{from_once}
use Rattle.cancel_reroute.proofs.cancel.check_stretch.Given as goal

-- no event so far that is taken away is reported
abbrev pub invariant-loop-event : goal.invariant-loop-event
invariant-loop-event l =
    any_reported (up_to (is_event l.arrival) (from_once l.departed (is_event l.departure) l.event-iterator))
    ≡ any_reported (up_to (is_event l.arrival) (Cuts.from (is_event l.departure) (train_events l.g.state l.departure.train)))
