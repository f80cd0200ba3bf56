use Rattle.timetable.proofs.Words.{◌≡◌, drop, events, events_from}
use Rattle.std.specs.List.{list_all}
use Rattle.timetable.specs.Scheduled.{has_schedule_alone}
use Rattle.timetable.proofs.scheduled.have_schedule_alone.Given as goal

-- what holds of the events of the trains that are left holds of all
abbrev pub invariant-loop-number : goal.invariant-loop-number
invariant-loop-number l = list_all has_schedule_alone (events_from l.number (drop l.number l.trains.trains)) ≡ list_all has_schedule_alone (events l.trains)
