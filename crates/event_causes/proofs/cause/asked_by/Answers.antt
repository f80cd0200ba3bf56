use Rattle.std.proofs.Common.{arith, ◌≡◌, ◌∙◌}
use Rattle.std.proofs.lemmas.List.Elements.{All-head, All-tail}
use Rattle.delay_model.specs.Timing.{event_time}
use Rattle.event_causes.specs.Asking.{AsksInTime}
use Rattle.event_causes.proofs.Gathered.{one-more}
use Rattle.event_causes.proofs.cause.asked_by.Goals as goal

pub loop-edge-preserved-in-Some-time : goal.loop-edge-preserved-in-Some-time
loop-edge-preserved-in-Some-time g c =
    let nw = c.args.t.now.network in
    let st = c.args.t.now.state in
    let e = c.in-Some.edge in
    let rest = c.next.new.self in
    let now = rw c.in-Some.ensures.steps at c.loop-edge.invariant in
    let own = (All-head (AsksInTime nw st) e rest now.2).time in
    let read = rw c.node.ensures at c.in-Some-time.ensures.time in
    let from : c.in-Some-time.from ≡ event_time nw st e.from = cc in
    let is = rw (c.graph-graph.ensures.network, c.graph-graph.ensures.state) at c.with_edge-due.ensures in (
      one-more nw st c.args.at.now c.args.time c.seconds.result c.loop-edge.due c.with_edge-due.result _ e rest
          (c.seconds.ensures.value ∙ from) is now.0,
      omega (arith, c.in-Some-time.ensures.cost, now.1),
      All-tail (AsksInTime nw st) e rest now.2,
    )
