use Rattle.timetable.proofs.Words.{arith}
use Rattle.timetable.proofs.LabelPlaces.{none-placed, places-fit, places-more}
use Rattle.timetable.proofs.places.places_for.Goals as goal

pub loop-number-init : goal.loop-number-init
loop-number-init c = none-placed c.args.trains.now c.in_ok-numbers.numbers c.in_ok-numbers.ensures

pub push_train-requires-clause-calls_spare : goal.push_train-requires-clause-calls_spare
push_train-requires-clause-calls_spare c =
    let own = rw c.new.ensures at c.label_count.ensures.count in
    places-fit c.loop-number.invariant own (omega (arith, c.loop-number-test.true, c.count-number-end.ensures))

pub loop-number-preserved : goal.loop-number-preserved
loop-number-preserved c =
    let own = rw c.new.ensures at c.label_count.ensures.count in
    places-more c.loop-number.invariant own (omega (arith, c.loop-number-test.true, c.count-number-end.ensures)) c.push_train.new.self c.push_train.ensures
