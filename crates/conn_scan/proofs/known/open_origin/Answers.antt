use Rattle.conn_scan.proofs.Words.{◌≡◌, false, nat_eq, station, true, arith, sym, ◌∙◌}
use Rattle.conn_scan.proofs.ChangeLemmas.{opens-next}
use Rattle.conn_scan.proofs.known.open_origin.Goals as goal
use Rattle.conn_scan.proofs.known.open_origin.Goals.{then-get, else-get}

pub loop-number-preserved : goal.loop-number-preserved
loop-number-preserved c =
    let t = c.args.changes.now in
    let q = c.args.asked.now.query in
    let n = c.loop-number.number in
    let end = c.stops-number-end.result in
    elim c.if-get.branch [
      | then-get w ↦
          let one : nat_eq (station t.stops n) (station t.stops q.from_stop) ≡ true = grind (arith, c.get.ensures, c.station.ensures, c.get-in-loop-number.ensures, c.requires.stations.origin, c.new-stop.ensures, w.if-get.true) in
          opens-next t q c.args.openings.now c.loop-number.openings c.if-get.openings end n true (omega (arith, c.loop-number-test.true)) one (grind (arith, w.openings-is, w.improve.ensures, c.new-stop.ensures, c.seconds.ensures, c.from-seconds.ensures)) c.loop-number.invariant
      | else-get w ↦
          let apart : nat_eq (station t.stops n) (station t.stops q.from_stop) ≡ false = grind (arith, c.get.ensures, c.station.ensures, c.get-in-loop-number.ensures, c.requires.stations.origin, c.new-stop.ensures, w.if-get.false) in
          opens-next t q c.args.openings.now c.loop-number.openings c.if-get.openings end n false (omega (arith, c.loop-number-test.true)) apart (grind (arith, w.openings-is)) c.loop-number.invariant
    ]
