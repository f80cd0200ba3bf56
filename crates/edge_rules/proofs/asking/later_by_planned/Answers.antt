use Rattle.edge_rules.proofs.Words.{◌+◌, All-left, Into, IsReady, drop, flat_map, planned_by, waits_at}
use Rattle.edge_rules.proofs.SoFar.{at-change, goes-on}
use Rattle.edge_rules.proofs.asking.later_by_planned.Goals as goal

pub later_by_near-time-requires-clause-ready : goal.later_by_near-time-requires-clause-ready
later_by_near-time-requires-clause-ready g c =
    let f = planned_by c.args.graph.now c.args.index.now.entries (Into (waits_at c.args.graph.now c.args.at.now)) c.args.at.now in
    let left = at-change f c.feeding_stops-changes.result.now c.loop-change.change-index c.change-item.result c.loop-change-test.true c.change-item.is in
    rw (c.near_feeders-near.ensures, c.in-Some.ensures.class) (All-left (IsReady c.args.times.now) (f c.change-item.result) _ (rw left at c.loop-change.invariant.ready))

pub loop-change-preserved : goal.loop-change-preserved
loop-change-preserved g c =
    let f = planned_by c.args.graph.now c.args.index.now.entries (Into (waits_at c.args.graph.now c.args.at.now)) c.args.at.now in
    let left = at-change f c.feeding_stops-changes.result.now c.loop-change.change-index c.change-item.result c.loop-change-test.true c.change-item.is in
    goes-on (f c.change-item.result) (flat_map f (drop (c.loop-change.change-index + 1) c.feeding_stops-changes.result.now)) _ _ (rw left at c.loop-change.invariant) (rw (c.near_feeders-near.ensures, c.in-Some.ensures.class) at c.later_by_near-time.ensures)
