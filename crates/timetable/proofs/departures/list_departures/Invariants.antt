use Rattle.timetable.proofs.Words.{events, live_keys}
use Rattle.timetable.proofs.Departing.{IsListedTo}
use Rattle.timetable.proofs.departures.list_departures.Given as goal

-- the departures so far are listed
abbrev pub invariant-loop-k : goal.invariant-loop-k
invariant-loop-k g l = IsListedTo l.graph.network l.graph.state l.times (live_keys (events l.graph.state)) l.k-iterator l.list.items
