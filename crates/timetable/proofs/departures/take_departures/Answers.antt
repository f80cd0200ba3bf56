use Rattle.timetable.proofs.Words.{◌+◌, ◌∙◌, drop, drop_all, sym}
use Rattle.timetable.proofs.{Listing.cut-at, TakenOut.all-there, TakenOut.named-event, TakenOut.none-taken, TakenOut.one-arrives, TakenOut.one-taken}
use Rattle.timetable.proofs.departures.take_departures.Goals.{then-n, else-n}
use Rattle.timetable.proofs.departures.take_departures.Goals as goal

pub loop-n-init : goal.loop-n-init
loop-n-init c = all-there c.requires.live c.requires.there

pub loop-n-preserved : goal.loop-n-preserved
loop-n-preserved c =
    let st = c.args.trains.now in
    let gone = c.args.gone.now in
    let n = c.n-item.result in
    let left = drop (c.loop-n.n-index + 1) gone in
    let part = rw (cut-at gone c.loop-n.n-index n c.loop-n-test.true c.n-item.is) at c.loop-n.invariant in
    elim c.if-n.branch [
      | then-n w ↦ (
          let v = named-event st n w.key.result w.key.ensures in
          rw w.departures-is (one-taken st c.requires.trains gone c.args.departures.now c.loop-n.departures n left part v.0 v.1 v.2 w.key.result v.3 w.take.new.self w.take.ensures.departures w.take.ensures.entries w.take.ensures.used w.take.ensures.onwards w.take.ensures.room))
      | else-n w ↦ rw w.departures-is (one-arrives st c.requires.trains gone c.args.departures.now c.loop-n.departures n left part w.if-n.false)
    ]

pub returns-clause-departures : goal.returns-clause-departures
returns-clause-departures c =
    let part = rw (drop_all c.loop-n.n-index c.args.gone.now c.loop-n-test.false) at c.loop-n.invariant in
    sym (none-taken c.loop-n.departures.departures) ∙ part.whole
