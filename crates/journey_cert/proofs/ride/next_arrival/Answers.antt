use Rattle.std.proofs.Common.{is_some, sym, ◌∙◌, ap}
use Rattle.journey_cert.proofs.CallLemmas.{next-named, arrival-dead, arrival-live}
use Rattle.journey_cert.proofs.ride.next_arrival.Goals as goal

pub returns-in_err-time : goal.returns-in_err-time
returns-in_err-time g c =
    let st = c.args.t.now.state in
    let next = next-named c.args.t.now.network st c.requires.valid c.args.train c.args.label c.requires.there c.in_ok-label.label (sym (rw (c.trains-trains.ensures.trains, c.graph.ensures.state) at c.in_ok-label.ensures)) in
    c.from_residual-in_err-time.ensures ∙ sym (arrival-dead c.args.t.now.network st c.requires.valid c.args.train c.args.label c.requires.there c.in_ok-label.label next (sym (rw c.arrival-arrival.ensures at c.in_err-time.ensures.time)))

pub event-departure-requires : goal.event-departure-requires
event-departure-requires g c =
    let next = next-named c.args.t.now.network c.args.t.now.state c.requires.valid c.args.train c.args.label c.requires.there c.in_ok-label.label (sym (rw (c.trains-trains.ensures.trains, c.graph.ensures.state) at c.in_ok-label.ensures)) in
    rw (c.trains-trains.ensures.trains, c.graph.ensures.state, c.departure.ensures) (ap is_some next.found)

pub alights-requires : goal.alights-requires
alights-requires g c =
    let next = next-named c.args.t.now.network c.args.t.now.state c.requires.valid c.args.train c.args.label c.requires.there c.in_ok-label.label (sym (rw (c.trains-trains.ensures.trains, c.graph.ensures.state) at c.in_ok-label.ensures)) in
    rw (c.trains-trains.ensures.trains, c.graph.ensures.state) (ap is_some next.found)

pub returns : goal.returns
returns g c =
    let st = c.args.t.now.state in
    let label = c.in_ok-label.label in
    let next = next-named c.args.t.now.network st c.requires.valid c.args.train c.args.label c.requires.there label (sym (rw (c.trains-trains.ensures.trains, c.graph.ensures.state) at c.in_ok-label.ensures)) in
    arrival-live c.args.t.now.network st c.requires.valid c.args.train c.args.label c.requires.there label next c.in_ok-time.time c.event-departure.result c.alights.result (sym (rw c.arrival-arrival.ensures at c.in_ok-time.ensures.time))
    (rw (c.trains-trains.ensures.trains, c.graph.ensures.state, c.departure.ensures) at c.event-departure.ensures)
    (rw (c.trains-trains.ensures.trains, c.graph.ensures.state) at c.alights.ensures)
