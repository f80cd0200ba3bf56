use Rattle.std.proofs.Common.{◌≡◌, drop}
use Rattle.journey_watch.specs.Renewing.{is_on_any}
use Rattle.journey_watch.proofs.trains.is_on_any.Given as goal

abbrev pub invariant-loop-ride : goal.invariant-loop-ride
invariant-loop-ride l = is_on_any l.trains (drop l.ride-index l.rides) ≡ is_on_any l.trains l.rides
