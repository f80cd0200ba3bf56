use Rattle.std.proofs.Common.{◌≡◌, drop}
use Rattle.journey_cert.specs.Stops.{are_good_from}
use Rattle.journey_cert.proofs.stops.are_good_stops.Given as goal

-- the stops that are left are good ones exactly where all are
abbrev pub invariant-loop-x : goal.invariant-loop-x
invariant-loop-x l =
    are_good_from l.t.network l.q l.best l.least (drop l.x-index l.reached) ≡ are_good_from l.t.network l.q l.best 0 l.reached
