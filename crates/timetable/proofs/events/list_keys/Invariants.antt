use Rattle.timetable.proofs.Words.{◌≡◌, ◌++◌, events, live_keys}
use Rattle.timetable.proofs.events.list_keys.Given as goal

-- with the keys that are left all are listed
abbrev pub invariant-loop-k : goal.invariant-loop-k
invariant-loop-k l = l.keys.items ++ l.k-iterator ≡ live_keys (events l.trains)
