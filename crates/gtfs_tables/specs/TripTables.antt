-- Rows of `trips.txt` in memory.
use Rattle.std.specs.Prelude.{ℕ, ◌+◌, length}
use Rattle.gtfs_tables.specs.declared.trips.TripTable.{TripTable}
use Rattle.gtfs_tables.specs.Ids.{AreIds}
use Rattle.gtfs_tables.specs.Numberings.{IsNumbered}
use Rattle.gtfs_tables.specs.Trips.{ListedTrips, trip_ids}

-- what the rows made
abbrev pub trips_view : TripTable → ListedTrips
trips_view t = record {
  rows = t.rows.items;
  routes = t.routes.names.items;
  services = t.services.names.items;
}

-- how many trips these are, with the names of their routes and services
abbrev pub trips_size : ListedTrips → ℕ
trips_size s = length s.rows + length s.routes + length s.services

-- its trips, routes and services are found by number
pub record IsTripTable (t : TripTable) : Type 0 where
  pub ids : AreIds t.ids (trip_ids t.rows.items)
  pub routes : IsNumbered t.routes
  pub services : IsNumbered t.services
