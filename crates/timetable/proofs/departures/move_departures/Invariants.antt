use Rattle.timetable.proofs.Words.{drop}
use Rattle.timetable.proofs.Moved.{AreMovedTo}
use Rattle.timetable.proofs.departures.move_departures.Given as goal

-- the departures so far are moved
abbrev pub invariant-loop-one : goal.invariant-loop-one
invariant-loop-one l = AreMovedTo l.graph.network l.graph.state l.changes l.fn.departures (drop l.one-index l.changes) l.departures
