use Rattle.schedule_build.proofs.Words.{refl, sym}
use Rattle.schedule_build.proofs.TrainNameLemmas.{named-there}
use Rattle.schedule_build.proofs.run_names.stored_train.Goals as goal

pub returns-clause-seen : goal.returns-clause-seen
returns-clause-seen c =
    let found = sym c.in-Some.ensures.number in
    let there = (named-there c.args.names.now c.trip_id.result.now c.in-Some.trip found).1 in
    rw (there, c.trip_id.ensures, c.new.ensures) refl

pub returns-clause-has_trip : goal.returns-clause-has_trip
returns-clause-has_trip c =
    let found = sym c.in-Some.ensures.number in
    let there = (named-there c.args.names.now c.trip_id.result.now c.in-Some.trip found).1 in
    rw there found
