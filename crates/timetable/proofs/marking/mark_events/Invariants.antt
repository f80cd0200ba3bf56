use Rattle.timetable.proofs.Words.{drop, events, is_same_node, node_of}
use Rattle.timetable.proofs.Marked.{IsMarking}
use Rattle.timetable.proofs.marking.mark_events.Given as goal

-- the events so far are marked
abbrev pub invariant-loop-n : goal.invariant-loop-n
invariant-loop-n l = IsMarking (events l.trains) (λ q n. is_same_node (node_of q) n) l.list l.fn.marks (drop l.n-index l.list) l.marks
