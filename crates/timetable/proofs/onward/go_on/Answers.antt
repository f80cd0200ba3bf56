use Rattle.std.proofs.Common.{◌≡◌, Some, sym, ◌∙◌}
use Rattle.state_laws.proofs.Words.{calls_of}
use Rattle.train_nodes.specs.Calls.{label_after}
use Rattle.timetable.proofs.Lines.{label-there}
use Rattle.timetable.proofs.GoneOn.{stored-one}
use Rattle.timetable.proofs.onward.go_on.Goals as goal

pub alighting_stop-requires : goal.alighting_stop-requires
alighting_stop-requires g c =
    let k = c.args.d.now.key in
    let e : label_after (calls_of c.args.g.now.state k.train) k.label ≡ Some c.in-Some.next = rw (← c.trains.ensures.trains) (sym c.next_call.ensures ∙ c.in-Some.is) in
    label-there (calls_of c.args.g.now.state k.train) k.label c.in-Some.next e

pub returns-in-Some : goal.returns-in-Some
returns-in-Some g c =
    let k = c.args.d.now.key in
    let e : label_after (calls_of c.args.g.now.state k.train) k.label ≡ Some c.in-Some.next = rw (← c.trains.ensures.trains) (sym c.next_call.ensures ∙ c.in-Some.is) in
    let told = c.set_onward.ensures in
    stored-one c.args.g.now.network c.args.g.now.state c.args.times.now k.train k.label c.in-Some.next c.read-time.result c.alighting_stop.result c.args.departures.now c.set_onward.new.self e (rw c.arrival.ensures at c.read-time.ensures.time) c.alighting_stop.ensures
    (record { onwards = told.onwards; departures = told.departures; entries = told.entries; used = told.used; room = told.room })
