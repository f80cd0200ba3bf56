use Rattle.std.proofs.Common.{true, false, arith}
use Rattle.delay_model.specs.Effect.{node_at}
use Rattle.train_nodes.proofs.EventLemmas.{live-there}
use Rattle.cancel_reroute.proofs.RerouteLemmas.{joined_rank}
use Rattle.cancel_reroute.proofs.reroute.check_joined.Goals as goal

pub event-departure-requires : goal.event-departure-requires
event-departure-requires c =
    rw (c.trains-trains.ensures.trains, c.departure.ensures) (live-there c.args.g.now.state (node_at c.args.train c.args.from true) c.requires.departs)

pub event-arrival-requires : goal.event-arrival-requires
event-arrival-requires c =
    rw (c.trains-trains.ensures.trains, c.arrival.ensures) (live-there c.args.g.now.state (node_at c.args.train c.args.to false) c.requires.arrives)

pub returns-in_err-check_new : goal.returns-in_err-check_new
returns-in_err-check_new c =
    let g = c.args.g.now in
    let leaves = rw (c.trains-trains.ensures.trains, c.departure.ensures) at c.event-departure.ensures in
    let comes = rw (c.trains-trains.ensures.trains, c.arrival.ensures) at c.event-arrival.ensures in
    let rank = joined_rank c.args.train c.args.from c.args.to c.args.via.now g.network g.state c.event-departure.result c.event-arrival.result c.requires.valid leaves comes in
    rw rank (grind (arith, c.check_new.ensures, c.in_err-check_new, c.from_residual.ensures))

pub returns : goal.returns
returns c =
    let g = c.args.g.now in
    let leaves = rw (c.trains-trains.ensures.trains, c.departure.ensures) at c.event-departure.ensures in
    let comes = rw (c.trains-trains.ensures.trains, c.arrival.ensures) at c.event-arrival.ensures in
    let rank = joined_rank c.args.train c.args.from c.args.to c.args.via.now g.network g.state c.event-departure.result c.event-arrival.result c.requires.valid leaves comes in
    rw rank (grind (arith, c.check_new.ensures, c.in_ok-check_new, c.next.ensures))
