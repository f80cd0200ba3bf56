-- A ride for each stop.
use Rattle.std.specs.Prelude.{ℕ, List, nat_eq, if◌then◌else◌, Option, Some, None, map}
use Rattle.conn_scan.specs.declared.stop_rides.Stretch.{Stretch}
use Rattle.conn_scan.specs.declared.stop_rides.StopRides.TheInside.{Inside}

-- what no departure has as its number
abbrev pub nobody : ℕ
nobody = 4294967295

-- the ride that stands in a row, if it is one
abbrev pub row_ride : Stretch → Option Stretch
row_ride row = if nat_eq row.first nobody then None else Some row

abbrev pub seen : Inside → List (Option Stretch)
seen s = map row_ride s.rows.items
