use Rattle.std.proofs.Common.{◌≡◌, ◌++◌, map, drop}
use Rattle.serde_json.specs.View.{view, items_of}
use Rattle.delay_report.specs.Journeys.{ride_object, ride_objects}
use Rattle.delay_report.proofs.journeys.ride_values.Given as goal

abbrev pub invariant-loop-ride : goal.invariant-loop-ride
invariant-loop-ride l = items_of (map view l.values.items ++ map (ride_object l.dir) (drop l.ride-index l.rides)) ≡ ride_objects l.dir l.rides
