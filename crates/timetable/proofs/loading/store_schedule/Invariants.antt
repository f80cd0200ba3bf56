use Rattle.timetable.proofs.loading.store_schedule.Given as goal
use Rattle.timetable.proofs.OnSchedule.{IsScheduledBut}

-- for all events but those that are left the scheduled time is stored
abbrev pub invariant-loop-k : goal.invariant-loop-k
invariant-loop-k l = IsScheduledBut l.graph l.fn.times l.times l.k-iterator
