use Rattle.graph_edit.proofs.RoomLemmas.{IsToRead, left_of}
use Rattle.graph_edit.proofs.values.is_behind_reports.Given as goal

-- none of the events that were looked at is reported after the time
abbrev pub invariant-loop-next : goal.invariant-loop-next
invariant-loop-next l = IsToRead l.t l.g.state l.n l.next

abbrev pub decreases-loop-next : goal.decreases-loop-next
decreases-loop-next l = left_of l.g.state l.next
