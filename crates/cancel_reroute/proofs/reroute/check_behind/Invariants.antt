use Rattle.std.proofs.Common.{◌≡◌}
use Rattle.delay_model.specs.Cuts.{after}
use Rattle.delay_model.specs.Events.{is_event, train_events}
use Rattle.delay_model.specs.Refusals.{any_reported}
use Rattle.edge_rules.proofs.Walks.{after_once}
use Rattle.cancel_reroute.proofs.reroute.check_behind.Given as goal

-- no event so far that stands behind is reported
abbrev pub invariant-loop-event : goal.invariant-loop-event
invariant-loop-event l =
    any_reported (after_once l.passed (is_event l.n) l.event-iterator) ≡ any_reported (after (is_event l.n) (train_events l.g.state l.n.train))
