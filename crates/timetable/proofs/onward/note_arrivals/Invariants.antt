use Rattle.std.proofs.Common.{drop}
use Rattle.timetable.specs.Linking.{with_arrivals}
use Rattle.timetable.proofs.LinkLemmas.{AreRenewedTo}
use Rattle.timetable.proofs.onward.note_arrivals.Given as goal

-- the arrivals so far are noted
abbrev pub invariant-loop-one : goal.invariant-loop-one
invariant-loop-one l =
    AreRenewedTo (with_arrivals l.trains (drop l.one-index l.changes)) (with_arrivals l.trains l.changes) l.fn.departures l.departures
