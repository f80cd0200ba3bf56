use Rattle.std.proofs.Common.{◌≡◌, ◌++◌, drop}
use Rattle.journey_watch.specs.Trains.{watched_trains}
use Rattle.journey_watch.proofs.trains.TrainJourneys.list_watched.Given as goal

abbrev pub invariant-loop-node : goal.invariant-loop-node
invariant-loop-node l = l.trains.items ++ watched_trains l.self (drop l.node-index l.nodes) ≡ watched_trains l.self l.nodes
