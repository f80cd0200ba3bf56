use Rattle.std.proofs.Common.{◌≡◌, map, take}
use Rattle.journey_laws.specs.Certificates.{name_of}
use Rattle.journey_watch.proofs.watch.names_of.Given as goal

abbrev pub invariant-loop-ride : goal.invariant-loop-ride
invariant-loop-ride l = l.names.items ≡ map name_of (take l.ride-index l.rides)
