use Rattle.train_nodes.specs.Kinds.{message_of_shape}
use Rattle.timetable.proofs.Lines.{rejoined-old}
use Rattle.timetable.proofs.Noted.{noted-is}
use Rattle.timetable.proofs.onward.noted_before.Goals as goal

pub arrival_beside-requires : goal.arrival_beside-requires
arrival_beside-requires c =
    let st = c.args.g.now.state in
    rw c.trains.ensures.trains (rw c.in-Reroute.is at (rejoined-old c.args.g.now.network st (message_of_shape c.args.s.now) c.requires.accepted))

pub returns-in-Reroute : goal.returns-in-Reroute
returns-in-Reroute c =
    let r = c.in-Reroute in
    rw (r.is, c.arrival_beside.ensures, c.trains.ensures.trains)
    (noted-is c.args.g.now.network c.args.g.now.state c.args.departures.now r.train r.from r.to r.via.now c.requires.valid (rw r.is at c.requires.accepted) c.requires.order)
