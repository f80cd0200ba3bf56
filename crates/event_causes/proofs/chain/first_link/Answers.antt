use Rattle.std.proofs.Common.{◌∙◌, ap, sym}
use Rattle.event_causes.specs.Following.{links_from}
use Rattle.event_causes.proofs.LinkByLink.{first-is, found-takes_place, timed-there, untimed}
use Rattle.event_causes.proofs.chain.first_link.Goals as goal

pub returns-in_err-time-clause-link : goal.returns-in_err-time-clause-link
returns-in_err-time-clause-link g c =
    let nw = c.args.t.now.network in
    let st = c.args.t.now.state in
    untimed nw st c.state_is_valid.ensures c.args.n.now c.in_err-time.ensures.time ∙ sym (ap (links_from nw st) c.from_residual.ensures)

pub event-at-requires : goal.event-at-requires
event-at-requires g c =
    rw (c.trains.ensures.trains, c.graph.ensures.state)
    (timed-there c.args.t.now.network c.args.t.now.state c.state_is_valid.ensures c.args.n.now c.in_ok-time.time c.in_ok-time.ensures.time)

pub cause-cause-requires : goal.cause-cause-requires
cause-cause-requires g c =
    let found = rw (c.trains.ensures.trains, c.graph.ensures.state) at c.event-at.ensures in
    found-takes_place c.args.t.now.network c.args.t.now.state c.state_is_valid.ensures c.args.n.now c.in_ok-time.time c.event-at.result
    c.in_ok-time.ensures.time found

pub returns-clause-link : goal.returns-clause-link
returns-clause-link g c =
    let found = rw (c.trains.ensures.trains, c.graph.ensures.state) at c.event-at.ensures in
    first-is c.args.t.now.network c.args.t.now.state c.state_is_valid.ensures c.args.n.now c.in_ok-time.time c.event-at.result c.cause-cause.result
    c.in_ok-time.ensures.time found c.cause-cause.ensures.cause
