use Rattle.timetable.proofs.Words.{length}
use Rattle.timetable.proofs.{LabelPlaces.labels-more}
use Rattle.timetable.proofs.prepare.add_times.Goals as goal

pub returns-in-Reroute-clause-places : goal.returns-in-Reroute-clause-places
returns-in-Reroute-clause-places c =
    let more = c.add_labels-in-Reroute.ensures in
    rw c.add_labels.ensures (labels-more c.in-Reroute.train (length c.in-Reroute.via.now) c.requires.places more.labels more.spare_trains more.spare_calls)
