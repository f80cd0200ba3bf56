use Rattle.timetable.proofs.Words.{drop}
use Rattle.timetable.proofs.TakenOut.{AreTakenTo}
use Rattle.timetable.proofs.departures.take_departures.Given as goal

-- with the events that are left those departures stay that are to stay
abbrev pub invariant-loop-n : goal.invariant-loop-n
invariant-loop-n l = AreTakenTo l.trains l.gone l.fn.departures (drop l.n-index l.gone) l.departures
