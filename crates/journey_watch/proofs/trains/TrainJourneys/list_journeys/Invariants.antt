use Rattle.std.proofs.Common.{◌≡◌, ◌++◌, drop}
use Rattle.journey_watch.specs.Trains.{journeys_on_any}
use Rattle.journey_watch.proofs.trains.TrainJourneys.list_journeys.Given as goal

abbrev pub invariant-loop-train : goal.invariant-loop-train
invariant-loop-train l = l.all.items ++ journeys_on_any l.self (drop l.train-index l.trains) ≡ journeys_on_any l.self l.trains
