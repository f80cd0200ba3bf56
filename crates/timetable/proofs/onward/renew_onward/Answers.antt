use Rattle.timetable.proofs.Onwards.{changes-called, linked-there, renewed-right, rejoined-there}
use Rattle.timetable.proofs.onward.renew_onward.Goals as goal

pub link_changed-requires-clause-rejoined : goal.link_changed-requires-clause-rejoined
link_changed-requires-clause-rejoined c = rejoined-there c.args.g.now.network c.requires.old c.args.g.now.state c.args.m.now c.requires.carried.step

pub link_changed-requires-clause-linked : goal.link_changed-requires-clause-linked
link_changed-requires-clause-linked c = linked-there c.args.g.now.network c.requires.old c.args.g.now.state c.args.m.now c.requires.carried.step

pub note_arrivals-requires : goal.note_arrivals-requires
note_arrivals-requires c =
    let h = c.requires in
    rw (c.trains.ensures.trains, h.changes_are) (changes-called c.args.g.now.network c.args.g.now.state h.times h.carried.prepared.valid.trains)

pub returns-clause-order : goal.returns-clause-order
returns-clause-order c =
    let law = c.departures_are_in_order.ensures in
    renewed-right c.args.g.now.network c.args.g.now.state c.args.m.now c.args.noted c.args.changes.now c.args.departures.now c.requires (record { all = law.all; departs = law.departs; calls = law.calls; used = law.used; unused = law.unused }) c.link_changed.new.departures c.note_arrivals.new.departures c.link_changed.ensures (rw c.trains.ensures.trains at c.note_arrivals.ensures)
