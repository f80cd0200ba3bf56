use Rattle.std.proofs.Common.{inl, inr, arith}
use Rattle.departures.proofs.ShownLemmas.{board-so-far}
use Rattle.departures.proofs.boards.board.Goals as goal

pub returns-then-len-most : goal.returns-then-len-most
returns-then-len-most c =
    let nw = c.args.t.now.network in
    let law = c.departures_are_in_order.ensures in
    board-so-far nw c.args.t.now.state c.departures-order.result.now c.state_is_valid.ensures c.calls_are_at_stops.ensures c.departures-order.ensures.order
    law.ascends law.keys law.calls c.args.place c.args.since c.args.most c.stops_of_station-here.result.station c.stops_of_station-here.ensures.of_place
    c.loop-d.rows.items c.loop-d.d-iterator c.loop-d.invariant.whole c.loop-d.invariant.few
    (inl (omega (arith, c.loop-d.rows.ok.0, c.len.ensures, c.if-len-most.true)))

pub returns : goal.returns
returns c =
    let nw = c.args.t.now.network in
    let law = c.departures_are_in_order.ensures in
    board-so-far nw c.args.t.now.state c.departures-order.result.now c.state_is_valid.ensures c.calls_are_at_stops.ensures c.departures-order.ensures.order
    law.ascends law.keys law.calls c.args.place c.args.since c.args.most c.stops_of_station-here.result.station c.stops_of_station-here.ensures.of_place
    c.loop-d.rows.items c.loop-d.d-iterator c.loop-d.invariant.whole c.loop-d.invariant.few
    (inr c.in-None.ensures.steps.0)
