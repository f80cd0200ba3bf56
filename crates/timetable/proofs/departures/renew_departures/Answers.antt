use Rattle.timetable.proofs.Words.{◌∙◌, ◌*◌, ◌≤◌, arith, ap, length, sym, State}
use Rattle.timetable.proofs.{Carrying.carried-on, Moving.left-are, Moving.moved-live, Moving.new-fit, Moving.time-changes-are}
use Rattle.timetable.proofs.departures.renew_departures.Goals as goal

pub move_departures-requires-clause-trains : goal.move_departures-requires-clause-trains
move_departures-requires-clause-trains c = c.requires.prepared.valid.trains

pub move_departures-requires-clause-changes : goal.move_departures-requires-clause-changes
move_departures-requires-clause-changes c =
    let a = c.requires in
    let nw = c.args.graph.now.network in
    let new = c.args.graph.now.state in
    let trains = a.step.valid.trains in
    rw (a.changes_are, a.departures, a.order.departures, left-are nw a.old new trains) (time-changes-are trains a.prepared)

pub move_departures-requires-clause-room : goal.move_departures-requires-clause-room
move_departures-requires-clause-room c =
    let a = c.requires in
    let nw = c.args.graph.now.network in
    let new = c.args.graph.now.state in
    let trains = a.step.valid.trains in
    rw (a.changes_are, a.departures, a.order.departures, left-are nw a.old new trains) (omega (arith, new-fit trains a.prepared, a.prepared.made, a.room, a.numbers.lengths, a.numbers.used))

pub renew_onward-requires : goal.renew_onward-requires
renew_onward-requires c =
    let a = c.requires in
    let nw = c.args.graph.now.network in
    let new = c.args.graph.now.state in
    let trains = a.step.valid.trains in
    let moved = rw (a.changes_are, a.departures, a.order.departures, left-are nw a.old new trains) at c.move_departures.ensures.departures in
    carried-on a c.move_departures.ensures.numbers (moved ∙ moved-live trains a.prepared) c.departures_are_in_order.ensures.all

pub returns-clause-room : goal.returns-clause-room
returns-clause-room c =
    let a = c.requires in
    let nw = c.args.graph.now.network in
    let new = c.args.graph.now.state in
    let trains = a.step.valid.trains in
    let more = rw (a.changes_are, a.departures, a.order.departures, left-are nw a.old new trains) at c.move_departures.ensures.room in
    omega (arith, more, new-fit trains a.prepared, a.prepared.made, a.room, a.numbers.lengths, a.numbers.used, c.renew_onward.ensures.used, ap length c.renew_onward.ensures.entries)
