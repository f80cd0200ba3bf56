use Rattle.timetable.proofs.Words.{train_events, vec_capacity}
use Rattle.timetable.proofs.Since.{IsSince}
use Rattle.timetable.proofs.leaving.list_since_report.Given as goal

-- what is listed, with what is left, gives all
abbrev pub invariant-loop-event : goal.invariant-loop-event
invariant-loop-event l = IsSince (vec_capacity l.fn.list) l.n (train_events l.trains l.n.train) l.event-iterator l.list
