use Rattle.timetable.proofs.Words.{◌+◌, drop, drop_all}
use Rattle.timetable.proofs.{Listing.cut-at, Moved.all-moved, Moved.none-moved-to, Moved.part-arrives, Moved.part-changes, Moved.part-moved}
use Rattle.timetable.proofs.departures.move_departures.Goals.{then-one, else-one}
use Rattle.timetable.proofs.departures.move_departures.Goals as goal

pub loop-one-init : goal.loop-one-init
loop-one-init c = none-moved-to c.requires.changes

pub move_departure-requires-clause-changes : goal.move_departure-requires-clause-changes
move_departure-requires-clause-changes c =
    let rs = c.args.changes.now in
    let left = drop (c.loop-one.one-index + 1) rs in
    let part = rw (cut-at rs c.loop-one.one-index c.one-item.result c.loop-one-test.true c.one-item.is) at c.loop-one.invariant in
    part-changes c.args.graph.now.network c.args.graph.now.state rs c.args.departures.now c.loop-one.departures c.one-item.result left part c.departures_are_in_order.ensures.ascends c.if-one.true

pub loop-one-preserved : goal.loop-one-preserved
loop-one-preserved c =
    let nw = c.args.graph.now.network in
    let st = c.args.graph.now.state in
    let rs = c.args.changes.now in
    let left = drop (c.loop-one.one-index + 1) rs in
    let part = rw (cut-at rs c.loop-one.one-index c.one-item.result c.loop-one-test.true c.one-item.is) at c.loop-one.invariant in
    elim c.if-one.branch [
      | then-one w ↦ rw w.departures-is (part-moved nw st rs c.args.departures.now c.loop-one.departures c.one-item.result left part w.departures_are_in_order.ensures.ascends w.if-one.true w.move_departure.new.departures w.move_departure.ensures.departures w.move_departure.ensures.room w.move_departure.ensures.numbers)
      | else-one w ↦ rw w.departures-is (part-arrives nw st rs c.args.departures.now c.loop-one.departures c.one-item.result left part w.if-one.false)
    ]

pub returns-clause-departures : goal.returns-clause-departures
returns-clause-departures c =
    all-moved c.args.graph.now.network c.args.graph.now.state c.args.changes.now c.args.departures.now c.loop-one.departures c.departures_are_in_order-2.ensures.ascends (rw (drop_all c.loop-one.one-index c.args.changes.now c.loop-one-test.false) at c.loop-one.invariant)
