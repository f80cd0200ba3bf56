use Rattle.conn_scan.proofs.Words.{◌<◌, sym, ◌∙◌, subst, arith, access_of, ride_along}
use Rattle.conn_scan.proofs.WayBack.{last-fits, left_of, way-ends, way-fits, way-more, way-smaller, IsOnWay}
use Rattle.conn_scan.proofs.trace.trace.Goals as goal

pub push_reserved-requires : goal.push_reserved-requires
push_reserved-requires c =
    let access = access_of c.args.t.now.state c.args.order.now c.args.openings.now in
    let last = ride_along c.args.t.now.state c.args.order.now c.args.last.now in
    let fits = last-fits access last c.args.t.now.network c.args.t.now.state c.requires.backwards c.requires.at_stops c.requires.possible in
    omega (arith, fits, c.requires.room, c.clear.ensures.len, c.clear.ensures.capacity)

pub push_reserved-requires-in-Some : goal.push_reserved-requires-in-Some
push_reserved-requires-in-Some c =
    let access = access_of c.args.t.now.state c.args.order.now c.args.openings.now in
    let last = ride_along c.args.t.now.state c.args.order.now c.args.last.now in
    let way = subst (IsOnWay access last c.loop-before.rides.items) c.in-Some.is c.loop-before.invariant.0 in
    let fits = way-fits access last c.args.t.now.network c.args.t.now.state c.requires.backwards c.requires.at_stops c.requires.possible c.loop-before.rides.items c.in-Some.ride way in
    omega (arith, fits, c.requires.room, c.loop-before.invariant.1)

pub loop-before-smaller : goal.loop-before-smaller
loop-before-smaller c =
    let access = access_of c.args.t.now.state c.args.order.now c.args.openings.now in
    let last = ride_along c.args.t.now.state c.args.order.now c.args.last.now in
    let way = subst (IsOnWay access last c.loop-before.rides.items) c.in-Some.is c.loop-before.invariant.0 in
    subst (λ o. left_of c.ride_before-before-in-Some.result < left_of o) (sym c.in-Some.is)
    (way-smaller access last c.args.t.now.network c.args.t.now.state c.requires.backwards c.loop-before.rides.items c.in-Some.ride c.ride_before-before-in-Some.result way (rw (c.trains-trains.ensures.trains, c.graph.ensures.state) at c.ride_before-before-in-Some.ensures))

pub loop-before-preserved : goal.loop-before-preserved
loop-before-preserved c =
    let access = access_of c.args.t.now.state c.args.order.now c.args.openings.now in
    let last = ride_along c.args.t.now.state c.args.order.now c.args.last.now in
    let way = subst (IsOnWay access last c.loop-before.rides.items) c.in-Some.is c.loop-before.invariant.0 in (
      way-more access last c.args.t.now.network c.args.t.now.state c.requires.backwards c.loop-before.rides.items c.push_reserved-in-Some.new.self.items c.in-Some.ride c.ride_before-before-in-Some.result way c.push_reserved-in-Some.ensures.items (rw (c.trains-trains.ensures.trains, c.graph.ensures.state) at c.ride_before-before-in-Some.ensures),
      c.push_reserved-in-Some.ensures.capacity ∙ c.loop-before.invariant.1,
    )

pub returns-clause-rides : goal.returns-clause-rides
returns-clause-rides c =
    let access = access_of c.args.t.now.state c.args.order.now c.args.openings.now in
    let last = ride_along c.args.t.now.state c.args.order.now c.args.last.now in
    let back = way-ends access last c.loop-before.rides.items (subst (IsOnWay access last c.loop-before.rides.items) c.in_default.is c.loop-before.invariant.0) in
    (back.0, back.1, c.reverse.ensures.items ∙ back.2)

pub ride_before-before-requires : goal.ride_before-before-requires
ride_before-before-requires c = rw (c.trains-trains.ensures.trains, c.graph.ensures.state) c.requires.readable

pub ride_before-before-requires-in-Some : goal.ride_before-before-requires-in-Some
ride_before-before-requires-in-Some c = rw (c.trains-trains.ensures.trains, c.graph.ensures.state) c.requires.readable
