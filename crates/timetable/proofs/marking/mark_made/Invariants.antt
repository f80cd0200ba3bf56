use Rattle.timetable.proofs.MadeLabels.{AreMadeBelow}
use Rattle.timetable.proofs.marking.mark_made.Given as goal

-- the events of the labels so far are marked, and what they feed first
abbrev pub invariant-loop-number : goal.invariant-loop-number
invariant-loop-number l = AreMadeBelow l.graph l.fn.t l.fn.first l.number l.fn.marks l.marks
