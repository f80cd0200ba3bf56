use Rattle.std.proofs.Common.{◌≡◌, false}
use Rattle.delay_model.specs.Events.{train_events}
use Rattle.event_causes.proofs.Cappers.{reported_from}
use Rattle.event_causes.proofs.cause.next_reported.Given as goal

-- the events that are left have the same next reported event as all
abbrev pub invariant-loop-event : goal.invariant-loop-event
invariant-loop-event l = reported_from l.behind l.at.key l.event-iterator ≡ reported_from false l.at.key (train_events l.trains l.at.key.train)
