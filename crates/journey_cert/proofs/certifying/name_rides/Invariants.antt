use Rattle.std.proofs.Common.{◌≡◌, ◌++◌, drop, map}
use Rattle.journey_laws.specs.Certificates.{name_of}
use Rattle.journey_cert.proofs.certifying.name_rides.Given as goal

abbrev pub invariant-loop-ride : goal.invariant-loop-ride
invariant-loop-ride l = l.names.items ++ map name_of (drop l.ride-index l.rides) ≡ map name_of l.rides
