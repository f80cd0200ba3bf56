use Rattle.std.proofs.Common.{sym, refl, Some, None}
use Rattle.train_nodes.proofs.EventLemmas.{live-there}
use Rattle.graph_edit.proofs.ChoiceLemmas.{ends}
use Rattle.graph_edit.proofs.ConnectionLemmas.{refused_is, edge_is}
use Rattle.graph_edit.proofs.connections.kept_edge.Goals as goal

pub event-from-requires : goal.event-from-requires
event-from-requires c = live-there c.trains-trains.result.now c.args.c.now.feeder (sym c.if-not-live.ensures)

pub event-to-requires : goal.event-to-requires
event-to-requires c = live-there c.trains-trains.result.now c.args.c.now.train (sym c.if-not-live-2.ensures)

pub returns-in-None-clause-refused : goal.returns-in-None-clause-refused
returns-in-None-clause-refused c =
    refused_is c.args.g.now.network _ _ _ _ _ _ None _ c.trains-trains.ensures.trains c.trains-trains.ensures.labels c.if-not-live.ensures c.if-not-live-2.ensures c.if-eq.ensures c.event-from.ensures c.event-to.ensures c.changes.ensures.stops c.changes.ensures.transfers c.changes.ensures.default c.in-None.ensures

pub returns-in-Some-clause-refused : goal.returns-in-Some-clause-refused
returns-in-Some-clause-refused c =
    refused_is c.args.g.now.network _ _ _ _ _ _ (Some c.in-Some.weight) _ c.trains-trains.ensures.trains c.trains-trains.ensures.labels c.if-not-live.ensures c.if-not-live-2.ensures c.if-eq.ensures c.event-from.ensures c.event-to.ensures c.changes.ensures.stops c.changes.ensures.transfers c.changes.ensures.default c.in-Some.ensures

pub returns-in-Some-clause-edge : goal.returns-in-Some-clause-edge
returns-in-Some-clause-edge c =
    let d = c.args.c.now in
    let e = ends d.choice d.feeder d.train c.requires.well_formed in
    edge_is c.args.g.now.network _ _ _ _ _ _ (Some c.in-Some.weight) _ c.trains-trains.ensures.trains c.trains-trains.ensures.labels c.if-not-live.ensures c.if-not-live-2.ensures c.if-eq.ensures c.event-from.ensures c.event-to.ensures c.changes.ensures.stops c.changes.ensures.transfers c.changes.ensures.default c.in-Some.ensures c.in-Some.weight e.0 e.1 refl
