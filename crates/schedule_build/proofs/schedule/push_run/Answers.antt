use Rattle.schedule_build.proofs.Words.{arith, nat_eq, All-filter, trip_of, IsTimely}
use Rattle.feed_tables.proofs.TripRowLemmas.{few-rows}
use Rattle.schedule_build.proofs.schedule.push_run.Goals as goal

pub trip_calls-requires-clause-few : goal.trip_calls-requires-clause-few
trip_calls-requires-clause-few c = rw c.rows_of.ensures (omega (arith, few-rows c.args.all.now c.args.run.now.trip, c.requires.few))

pub trip_calls-requires-clause-timely : goal.trip_calls-requires-clause-timely
trip_calls-requires-clause-timely c = rw c.rows_of.ensures (All-filter (λ r. nat_eq (trip_of r) c.args.run.now.trip) IsTimely c.args.all.now c.requires.timely)
