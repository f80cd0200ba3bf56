use Rattle.journey_watch.proofs.WatchLemmas.{first-last}
use Rattle.journey_watch.proofs.watch.first_arrival.Goals as goal

pub returns-in-Some : goal.returns-in-Some
returns-in-Some c = first-last c.args.time c.args.rides.now c.in-Some.ride.now c.in-Some.ensures.value
