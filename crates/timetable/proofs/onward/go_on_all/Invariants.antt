use Rattle.timetable.proofs.GoneOn.{HaveGoneOn}
use Rattle.timetable.proofs.onward.go_on_all.Given as goal

-- what stands beside the departures of the numbers so far is right
abbrev pub invariant-loop-number : goal.invariant-loop-number
invariant-loop-number g l = HaveGoneOn l.g.network l.g.state l.fn.departures l.number l.departures
