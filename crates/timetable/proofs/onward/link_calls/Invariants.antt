use Rattle.timetable.specs.Linking.{AreRenewed, with_labels_linked}
use Rattle.timetable.proofs.onward.link_calls.Given as goal

-- the calls of the labels so far are linked
abbrev pub invariant-loop-label : goal.invariant-loop-label
invariant-loop-label l = AreRenewed (with_labels_linked l.g.network l.g.state l.fn.departures.entries l.fn.t l.fn.first l.label) l.fn.departures l.departures
