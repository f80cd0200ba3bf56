-- What the rows of `trips.txt` mean, or the first fault in them (GTFS Schedule, trips.txt).
use Rattle.std.specs.Prelude.{ℕ, List, [], ◌∷◌, ◌++◌, map, Result, Ok, is_none}
use Rattle.mt_base.specs.declared.tables.TripRow.{TripRow}
use Rattle.gtfs_tables.specs.declared.columns.Column.{Column}
use Rattle.gtfs_tables.specs.declared.columns.Column.TheVariants.{RouteId, ServiceId, TripId}
use Rattle.gtfs_tables.specs.declared.faults.Cause.TheVariants.{DuplicateKey}
use Rattle.gtfs_tables.specs.declared.faults.Fault.{Fault}
use Rattle.gtfs_tables.specs.Checks.{Step, fault, check, table_from, ◌>>=◌}
use Rattle.gtfs_tables.specs.Numbers.{number_from, number_in, names_with}

-- the columns that the table needs, in the order of their checks
abbrev pub trip_columns : List Column
trip_columns = RouteId ∷ ServiceId ∷ TripId ∷ []

-- the trips in the order of the rows, and the names of their routes and services in the order in
-- which they first appear
pub record ListedTrips : Type 0 where
  pub rows : List TripRow
  pub routes : List (List ℕ)
  pub services : List (List ℕ)

-- before the first row
abbrev pub no_trips : ListedTrips
no_trips = record { rows = []; routes = []; services = [] }

-- the ids in the order of the rows
abbrev pub trip_ids : List TripRow → List (List ℕ)
trip_ids rows = map (λ (row : TripRow). row.id) rows

-- the trips with one more, whose `trip_id` no earlier row has
abbrev pub with_trip : ℕ → List ℕ → List ℕ → List ℕ → ListedTrips → Result ListedTrips Fault
with_trip row route service id s =
    check (fault row DuplicateKey) (is_none (number_from 0 id (trip_ids s.rows)))
    >>= λ _. Ok (record {
      rows = s.rows ++ record {
        id = id;
        route = number_in route s.routes;
        service = number_in service s.services;
      } ∷ [];
      routes = names_with route s.routes;
      services = names_with service s.services;
    })

-- what a row makes of the trips so far
abbrev pub trip_step : Step ListedTrips
trip_step row field s = with_trip row (field RouteId) (field ServiceId) (field TripId) s

-- the table, by all its records
abbrev pub trips_of : List (List (List ℕ)) → Result ListedTrips Fault
trips_of all = table_from trip_columns trip_step no_trips all
