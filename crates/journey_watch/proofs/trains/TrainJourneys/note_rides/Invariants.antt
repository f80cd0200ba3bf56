use Rattle.std.proofs.Common.{ℕ}
use Rattle.std.specs.List.{AllWithin, Contains}
use Rattle.mt_base.specs.declared.certificates.CertRide.{CertRide}
use Rattle.journey_watch.specs.Trains.{journeys_on}
use Rattle.journey_watch.proofs.trains.TrainJourneys.note_rides.Given as goal

-- the journey stands beside the trains so far, and none is taken away
abbrev pub invariant-loop-ride : goal.invariant-loop-ride
invariant-loop-ride l =
    AllWithin (λ (c : CertRide). Contains (journeys_on l.self c.train) l.journey) l.rides 0 l.ride-index
    × ((other n : ℕ) → Contains (journeys_on l.initial.self other) n → Contains (journeys_on l.self other) n)
