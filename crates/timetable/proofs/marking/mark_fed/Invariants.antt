use Rattle.timetable.proofs.Words.{drop, events}
use Rattle.timetable.specs.Marking.{is_fed_from}
use Rattle.timetable.proofs.Marked.{IsMarking}
use Rattle.timetable.proofs.marking.mark_fed.Given as goal

-- what the events so far feed is marked
abbrev pub invariant-loop-n : goal.invariant-loop-n
invariant-loop-n l = IsMarking (events l.graph.state) (is_fed_from l.graph) l.list l.fn.marks (drop l.n-index l.list) l.marks
