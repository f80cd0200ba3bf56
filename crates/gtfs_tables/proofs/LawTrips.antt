-- What the rows of `trips.txt` keep: each has one of the routes and one of the services, and no two have one id.
use Rattle.gtfs_tables.proofs.Words.{◌≡◌, ℕ, ◌≤◌, List, Ok, All, length, arith, All-nil, All-push, All-weaker, TripRow, AreDistinct, Column, ServiceId, names_with, ListedTrips}
use Rattle.feed_tables.specs.Lawful.{IsTrip}
use Rattle.gtfs_tables.specs.declared.columns.Column.TheVariants.{RouteId}
use Rattle.gtfs_tables.specs.Trips.{no_trips, trip_columns, trip_ids, trip_step, trips_of}
use Rattle.gtfs_tables.proofs.LawNames.{ids-push, with-name}
use Rattle.gtfs_tables.proofs.LawSteps.{table-keeps}

-- the trips of a table without a fault
pub record AreTrips (s : ListedTrips) : Type 0 where
  pub trips : All (IsTrip (length s.routes) (length s.services)) s.rows
  pub ids : AreDistinct (trip_ids s.rows)
  pub routes : AreDistinct s.routes
  pub services : AreDistinct s.services

-- there may be more routes and services than there were
pub more-names : (routes services more_routes more_services : ℕ) (rows : List TripRow) → routes ≤ more_routes → services ≤ more_services → All (IsTrip routes services) rows → All (IsTrip more_routes more_services) rows
more-names routes services more_routes more_services rows l k h = All-weaker (IsTrip routes services) (IsTrip more_routes more_services) (λ row t. grind arith) rows h

trip-added : (row : ℕ) (field : Column → List ℕ) (s next : ListedTrips) → trip_step row field s ≡ Ok next → AreTrips s → AreTrips next
trip-added row field s next h k =
    let routes = names_with (field RouteId) s.routes in
    let services = names_with (field ServiceId) s.services in
    let ids = ids-push (λ (trip : TripRow). trip.id) s.rows in
    let rows = more-names (length s.routes) (length s.services) (length routes) (length services) s.rows in
    grind (arith, with-name (field RouteId) s.routes, with-name (field ServiceId) s.services, ids, rows, All-push (IsTrip (length routes) (length services)) s.rows)

pub trips-keep : (all : List (List (List ℕ))) (s : ListedTrips) → trips_of all ≡ Ok s → AreTrips s
unfolding AreDistinct
trips-keep all s h = table-keeps AreTrips trip_step trip-added trip_columns no_trips s all h (record { trips = All-nil (IsTrip 0 0); ids = tt; routes = tt; services = tt })
