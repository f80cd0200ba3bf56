use Rattle.timetable.proofs.Words.{arith}
use Rattle.timetable.proofs.{Named.live_time-none, Named.time-stored}
use Rattle.timetable.proofs.timetable.Timetable.time_at.Goals as goal

pub read-requires : goal.read-requires
read-requires g c =
    let a = c.self.inside in
    grind (arith, time-stored a.graph.network a.graph.state a.times c.args.n.now c.self.invariant.settled.times)

pub returns-then-live-clause-time : goal.returns-then-live-clause-time
returns-then-live-clause-time g c =
    let a = c.self.inside in
    let same = c.self.view_is in
    grind (arith, time-stored a.graph.network a.graph.state a.times c.args.n.now c.self.invariant.settled.times)

pub returns-else-live-clause-time : goal.returns-else-live-clause-time
returns-else-live-clause-time g c =
    let a = c.self.inside.graph in
    let same = c.self.view_is in
    grind (arith, live_time-none a.network a.state c.args.n.now)
