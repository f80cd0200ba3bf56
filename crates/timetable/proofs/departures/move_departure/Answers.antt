use Rattle.dep_order.specs.Ordered.{at_time}
use Rattle.timetable.proofs.Words.{◌<◌, ap, length, length-map, option_map, ◌≡◌, ◌∙◌, arith, false, list_any, Departure, is_same}
use Rattle.timetable.proofs.{Moved.moved-none, Moved.moved-there, Moved.new-call, Moved.new-key, Moved.put-new, Moved.call-of, Moved.count-some, Numbers.moved-on, Numbers.put-in, Numbers.retimed, LabelPlaces.has-place}
use Rattle.timetable.proofs.departures.move_departure.Goals as goal

pub departing_at-requires : goal.departing_at-requires
departing_at-requires c = call-of c.requires.trains c.requires.changes

pub put-requires-clause-new_call : goal.put-requires-clause-new_call
put-requires-clause-new_call c =
    let nw = c.args.graph.now.network in
    let st = c.args.graph.now.state in
    let r = c.args.one.now in
    let ds = c.args.departures.now.departures in
    let up = c.departures_are_in_order.ensures.ascends in
    let none : list_any (λ (d : Departure). is_same d.key r.key) ds ≡ false = grind arith in
    rw (c.departing_at.ensures, c.move_to.ensures.departures, moved-none nw st r ds c.requires.departs up c.requires.changes none)
    (new-call nw st r ds c.requires.departs up c.requires.changes c.requires.trains none)

pub put-requires-clause-place : goal.put-requires-clause-place
put-requires-clause-place c =
    let st = c.args.graph.now.state in
    let r = c.args.one.now in
    rw (c.departing_at.ensures, c.move_to.ensures.room.labels, c.requires.places) (has-place st c.requires.trains r.key (c.requires.changes.there 0 r (omega arith)))

pub returns-then-not-move_to-clause-departures : goal.returns-then-not-move_to-clause-departures
returns-then-not-move_to-clause-departures c =
    let nw = c.args.graph.now.network in
    let st = c.args.graph.now.state in
    let r = c.args.one.now in
    let ds = c.args.departures.now.departures in
    let up = c.departures_are_in_order.ensures.ascends in
    let none : list_any (λ (d : Departure). is_same d.key r.key) ds ≡ false = grind arith in
    let put = rw (c.departing_at.ensures, c.move_to.ensures.departures, moved-none nw st r ds c.requires.departs up c.requires.changes none) at c.put.ensures.departures in
    put ∙ put-new nw st r ds c.requires.departs up c.requires.changes none

pub returns-then-not-move_to-clause-numbers : goal.returns-then-not-move_to-clause-numbers
returns-then-not-move_to-clause-numbers c =
    let nw = c.args.graph.now.network in
    let st = c.args.graph.now.state in
    let r = c.args.one.now in
    let ds = c.args.departures.now.departures in
    let up = c.departures_are_in_order.ensures.ascends in
    let none : list_any (λ (d : Departure). is_same d.key r.key) ds ≡ false = grind arith in
    let moved = c.move_to.ensures in
    let order = c.departures_are_in_order-then-not-move_to.ensures in
    let fits : c.move_to.new.self.used < length c.move_to.new.self.entries = omega (arith, count-some ds r none c.requires.departs, c.requires.room, moved.used, ap length moved.entries, length-map c.args.departures.now.entries (option_map (at_time r.key r.is))) in
    let is : c.move_to.new.self.departures ≡ ds = moved.departures ∙ moved-none nw st r ds c.requires.departs up c.requires.changes none in
    let new = rw (← is, order.all) at (new-key nw st r ds c.requires.departs up c.requires.changes none) in
    moved-on (retimed r.key r.is moved.entries moved.used moved.onwards moved.room)
    (put-in c.departing_at.result fits (order.unused c.move_to.new.self.used (omega arith)) (rw c.departing_at.ensures new) c.put.ensures.entries c.put.ensures.used c.put.ensures.onwards c.put.ensures.room)

pub returns-else-not-move_to-clause-departures : goal.returns-else-not-move_to-clause-departures
returns-else-not-move_to-clause-departures c =
    let r = c.args.one.now in
    let ds = c.args.departures.now.departures in
    c.move_to.ensures.departures
    ∙ moved-there c.args.graph.now.network c.args.graph.now.state r ds c.requires.departs c.departures_are_in_order.ensures.ascends c.requires.changes c.departures_are_in_order.ensures.keys (grind arith)

pub returns-else-not-move_to-clause-numbers : goal.returns-else-not-move_to-clause-numbers
returns-else-not-move_to-clause-numbers c =
    let moved = c.move_to.ensures in
    retimed c.args.one.now.key c.args.one.now.is moved.entries moved.used moved.onwards moved.room
