use Rattle.timetable.proofs.Words.{◌≡◌, train_events}
use Rattle.std.specs.List.{list_all}
use Rattle.timetable.specs.Scheduled.{has_schedule_alone}
use Rattle.timetable.proofs.scheduled.train_has_schedule_alone.Given as goal

-- what holds of the events that are left holds of all
abbrev pub invariant-loop-event : goal.invariant-loop-event
invariant-loop-event l = list_all has_schedule_alone l.event-iterator ≡ list_all has_schedule_alone (train_events l.trains l.fn.train)
