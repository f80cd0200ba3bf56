use Rattle.timetable.proofs.Words.{events, length}
use Rattle.timetable.proofs.AllMarked.{AreMarkedBut}
use Rattle.timetable.proofs.loading.mark_all.Given as goal

-- all live events but those that are left are marked
abbrev pub invariant-loop-k : goal.invariant-loop-k
invariant-loop-k l = AreMarkedBut (events l.trains) l.keys.items l.fn.marks.room l.marks

abbrev pub decreases-loop-k : goal.decreases-loop-k
decreases-loop-k l = length l.keys.items
