use Rattle.std.proofs.Common.{sym, ◌∙◌}
use Rattle.departures.proofs.CallLemmas.{ends, fewer, goes-nowhere, goes-on, is-next, stays}
use Rattle.departures.proofs.boards.goes_to.Goals as goal

pub returns-then-not-live : goal.returns-then-not-live
returns-then-not-live c =
    let l = c.loop-next in
    sym (stays c.args.trains.now c.labels_are_distinct.ensures.labels c.args.from.now.train l.label l.invariant.there c.in-Some.next c.in-Some.ensures l.to
    (sym c.if-not-live.true ∙ rw c.arrival.ensures at c.live.ensures)) ∙ l.invariant.onward

pub stop-to-requires-in-Some : goal.stop-to-requires-in-Some
stop-to-requires-in-Some c =
    let l = c.loop-next in
    is-next c.args.trains.now c.labels_are_distinct.ensures.labels c.args.from.now.train l.label l.invariant.there c.in-Some.next c.in-Some.ensures

pub returns-then-not-live-2 : goal.returns-then-not-live-2
returns-then-not-live-2 c =
    let l = c.loop-next in
    sym (ends c.args.trains.now c.labels_are_distinct.ensures.labels c.args.from.now.train l.label l.invariant.there c.in-Some.next c.in-Some.ensures
    l.to c.stop-to-in-Some.result (sym c.if-not-live.false ∙ rw c.arrival.ensures at c.live.ensures) c.stop-to-in-Some.ensures
    (sym c.if-not-live-2.true ∙ rw c.departure.ensures at c.live-in-Some.ensures)) ∙ l.invariant.onward

pub loop-next-smaller : goal.loop-next-smaller
loop-next-smaller c =
    let l = c.loop-next in
    fewer c.args.trains.now c.labels_are_distinct.ensures.labels c.args.from.now.train l.label l.invariant.there c.in-Some.next c.in-Some.ensures

pub loop-next-preserved : goal.loop-next-preserved
loop-next-preserved c =
    let l = c.loop-next in
    let st = c.args.trains.now in
    let labels = c.labels_are_distinct.ensures.labels in
    let train = c.args.from.now.train in
    record {
      onward = sym (goes-on st labels train l.label l.invariant.there c.in-Some.next c.in-Some.ensures l.to c.stop-to-in-Some.result
          (sym c.if-not-live.false ∙ rw c.arrival.ensures at c.live.ensures) c.stop-to-in-Some.ensures
          (sym c.if-not-live-2.false ∙ rw c.departure.ensures at c.live-in-Some.ensures)) ∙ l.invariant.onward;
      there = is-next st labels train l.label l.invariant.there c.in-Some.next c.in-Some.ensures;
    }

pub returns : goal.returns
returns c =
    let l = c.loop-next in
    sym (goes-nowhere c.args.trains.now c.args.from.now.train l.label l.to (sym c.in_default.is ∙ c.next_call.ensures)) ∙ l.invariant.onward
