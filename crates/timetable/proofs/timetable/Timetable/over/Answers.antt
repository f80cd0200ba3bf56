use Rattle.timetable.proofs.Words.{arith, events}
use Rattle.timetable.proofs.Listing.{live-few}
use Rattle.timetable.proofs.timetable.Timetable.over.Goals as goal

pub load-requires-clause-few : goal.load-requires-clause-few
load-requires-clause-few c = omega (arith, live-few (events c.args.graph.state), c.requires.nodes)
