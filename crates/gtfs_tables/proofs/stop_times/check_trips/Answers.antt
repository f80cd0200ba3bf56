use Rattle.gtfs_tables.proofs.Words.{arith, check_trips}
use Rattle.std.proofs.lemmas.Grind.{common_steps}
use Rattle.gtfs_tables.proofs.stop_times.check_trips.Goals as goal

pub loop-key-preserved : goal.loop-key-preserved
unfolding check_trips
loop-key-preserved c = grind (arith, common_steps)

pub returns-in_err-check_trip : goal.returns-in_err-check_trip
unfolding check_trips
returns-in_err-check_trip c = grind (arith, common_steps)

pub returns : goal.returns
unfolding check_trips
returns c = grind (arith, common_steps)
