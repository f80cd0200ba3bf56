use Rattle.dep_order.proofs.Words.{◌≡◌, suc, ◌+◌, Some, set, ◌∙◌, ap, arith, departures_in_order, in_order, leaves_before, length}
use Rattle.dep_order.proofs.LoadLemmas.{load-all, load-end, load-new, load-next, load-room, load-start}
use Rattle.dep_order.proofs.order.DepartureOrder.build.Goals as goal

pub loop-departure-init : goal.loop-departure-init
loop-departure-init c =
    let e = c.in_ok-order.ensures in
    record {
      entries = e.entries ∙ load-start c.args.departures.now c.args.spare;
      used = e.used;
      labels = e.labels;
      spare_trains = e.spare_trains;
      spare_calls = e.spare_calls;
    }

pub put-requires-clause-new_call : goal.put-requires-clause-new_call
put-requires-clause-new_call c =
    let i = c.loop-departure.departure-index in
    let d = c.departure-item.result in
    let is = c.departures_are_in_order.ensures.all ∙ ap departures_in_order c.loop-departure.invariant.entries in
    rw is (load-new c.args.departures.now c.args.spare i d (omega arith) c.departure-item.is c.requires.calls)

pub put-requires-clause-room : goal.put-requires-clause-room
put-requires-clause-room c =
    let i = c.loop-departure.invariant in
    rw i.used (load-room c.args.departures.now c.args.spare c.loop-departure.departure-index c.loop-departure.order.entries i.entries (omega arith))

pub loop-departure-preserved : goal.loop-departure-preserved
loop-departure-preserved c =
    let i = c.loop-departure.invariant in
    let n = c.loop-departure.departure-index in
    let ds = c.args.departures.now in
    let d = c.departure-item.result in
    let p = c.put.ensures in
    let e : n + 1 ≡ suc n = omega arith in
    let at = rw i.used at p.entries in
    record {
      entries = rw e (at ∙ ap (λ es. set es n (Some d)) i.entries ∙ load-next n ds c.args.spare d (omega arith) c.departure-item.is);
      used = omega (arith, p.used, i.used);
      labels = p.room.labels ∙ i.labels;
      spare_trains = p.room.spare_trains ∙ i.spare_trains;
      spare_calls = p.room.spare_calls ∙ i.spare_calls;
    }

pub returns-clause-entries : goal.returns-clause-entries
returns-clause-entries c =
    let e : c.loop-departure.departure-index ≡ length c.args.departures.now = omega arith in
    let all = rw e at c.loop-departure.invariant.entries in
    all ∙ load-end c.args.departures.now c.args.spare

pub returns-clause-departures : goal.returns-clause-departures
returns-clause-departures c =
    let e : c.loop-departure.departure-index ≡ length c.args.departures.now = omega arith in
    let all = rw e at c.loop-departure.invariant.entries in
    c.departures_are_in_order-2.ensures.all ∙ ap departures_in_order all ∙ ap (in_order leaves_before) (load-all c.args.departures.now c.args.spare)
