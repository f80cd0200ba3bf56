use Rattle.timetable.proofs.Words.{◌≡◌, ◌+◌, events, length, live_keys}
use Rattle.timetable.proofs.events.count_live.Given as goal

-- with those that are left all are counted
abbrev pub invariant-loop : goal.invariant-loop
invariant-loop l = l.count + length l.iterator' ≡ length (live_keys (events l.trains))
