use Rattle.timetable.proofs.Words.{◌≡◌, live_keys}
use Rattle.timetable.proofs.events.next_live.Given as goal

-- no live event was among those that were passed over
abbrev pub invariant-loop-event : goal.invariant-loop-event
invariant-loop-event l = live_keys l.events ≡ live_keys l.fn.events
