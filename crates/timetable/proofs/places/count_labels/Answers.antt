use Rattle.timetable.proofs.Words.{arith}
use Rattle.timetable.proofs.LabelPlaces.{counted-more}
use Rattle.timetable.proofs.places.count_labels.Goals as goal

pub loop-number-preserved : goal.loop-number-preserved
loop-number-preserved c =
    let own = rw c.new.ensures at c.label_count.ensures.count in
    omega (arith, c.in_ok-count.ensures.1, c.loop-number.invariant, counted-more c.args.trains.now c.loop-number.number c.label_count.result own)
