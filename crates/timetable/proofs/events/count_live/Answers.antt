use Rattle.timetable.proofs.Words.{ap, arith, events, length}
use Rattle.timetable.proofs.Listing.{live-few}
use Rattle.timetable.proofs.events.count_live.Goals as goal

pub overflow_add-count : goal.overflow_add-count
overflow_add-count c = omega (arith, ap length c.in-Some.ensures.steps, live-few (events c.args.trains.now))
