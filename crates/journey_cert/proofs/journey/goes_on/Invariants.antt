use Rattle.std.proofs.Common.{◌≡◌, drop}
use Rattle.journey_laws.specs.Checked.{goes_on}
use Rattle.journey_laws.specs.Rides.{all_rides}
use Rattle.journey_cert.proofs.journey.goes_on.Given as goal

-- the rides that are left go on from here exactly where all go on from the beginning
abbrev pub invariant-loop-name : goal.invariant-loop-name
invariant-loop-name g l =
    let rides = all_rides l.t.network l.t.state in
    goes_on l.t.network rides l.at.stop l.at.time (drop l.name-index l.names) l.to l.arrives ≡ goes_on l.t.network rides l.from.stop l.from.time l.names l.to l.arrives
