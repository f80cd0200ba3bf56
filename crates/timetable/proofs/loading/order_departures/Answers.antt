use Rattle.timetable.proofs.Words.{arith}
use Rattle.timetable.proofs.{Departing.listed-are, Departing.listed-few, Listing.live-held}
use Rattle.timetable.proofs.ListedLemmas.{listed-apart, listed-depart, listed-placed, order-loaded}
use Rattle.timetable.proofs.loading.order_departures.Goals as goal

pub list_departures-requires-clause-held : goal.list_departures-requires-clause-held
list_departures-requires-clause-held g c = let s = c.requires.settled in live-held c.args.graph.now.state c.args.times.now s.valid.trains s.has_times

pub build-requires-clause-departs : goal.build-requires-clause-departs
build-requires-clause-departs g c = rw c.deref.ensures.value (listed-depart c.requires.settled.valid.trains c.in_ok-list.ensures)

pub build-requires-clause-calls : goal.build-requires-clause-calls
build-requires-clause-calls g c = rw c.deref.ensures.value (listed-apart c.requires.settled.valid.trains c.in_ok-list.ensures)

pub build-requires-clause-places : goal.build-requires-clause-places
build-requires-clause-places g c =
    rw (c.deref.ensures.value, c.in_ok-places.ensures.labels, c.trains.ensures.trains) (listed-placed c.requires.settled.valid.trains c.in_ok-list.ensures)

pub build-requires-clause-few : goal.build-requires-clause-few
build-requires-clause-few g c =
    let few = listed-few c.in_ok-list.ensures in
    rw (c.deref.ensures.value, c.spare_calls.ensures, c.trains-2.ensures.trains) (omega (arith, few, c.requires.few))

pub returns : goal.returns
returns g c =
    let st = c.args.graph.now.state in
    let places = c.in_ok-places.ensures in
    order-loaded c.build.result c.requires.settled c.in_ok-list.ensures
    (rw c.deref.ensures.value at c.build.ensures.departures)
    (rw (c.deref.ensures.value, c.spare_calls.ensures, c.trains-2.ensures.trains) at c.build.ensures.entries)
    (rw c.deref.ensures.value at c.build.ensures.used)
    (rw (places.labels, c.trains.ensures.trains) at c.build.ensures.labels)
    (rw (places.spare_trains, c.trains.ensures.trains) at c.build.ensures.spare_trains)
    (rw (places.spare_calls, c.trains.ensures.trains) at c.build.ensures.spare_calls)
