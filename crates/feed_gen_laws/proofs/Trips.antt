-- The trips that the tables hold.
use Rattle.feed_gen_laws.proofs.Words.{List, None, Ok, [], ap, arith, codes, contents_of, files, holds, map, number_from, records_of, refl, strip_bom, suc, table_named, tables-short, trip_ids, trip_name, zero, ℕ, ◌++◌, ◌+◌, ◌<◌, ◌∙◌, ◌∷◌, ◌≡◌, ◌≤◌}
use Rattle.feed_gen.specs.Tables.{trips_table}
use Rattle.gtfs_tables.specs.Feeds.{trips_in}
use Rattle.gtfs_tables.specs.Trips.{ListedTrips, no_trips, trip_columns, trip_step, with_trip}
use Rattle.mt_base.specs.declared.tables.TripRow.{TripRow}
use Rattle.gtfs_tables.specs.declared.faults.Table.TheVariants as table
use Rattle.feed_gen_laws.proofs.Names.{apart, name-fresh, plain-name}
use Rattle.feed_gen_laws.proofs.Rows.{numbers, one-more}
use Rattle.feed_gen_laws.proofs.Steps.{IsGood, content-holds, map-map, table-made}

abbrev trip_header : List (List ℕ)
trip_header = codes "route_id" ∷ codes "service_id" ∷ codes "trip_id" ∷ []

abbrev trip_fields : ℕ → List (List ℕ)
trip_fields k = codes "R" ∷ codes "ALL" ∷ trip_name k ∷ []

-- all trips are of one route and one service
abbrev pub trip : ℕ → TripRow
trip k = record { id = trip_name k; route = 0; service = 0 }

-- what so many rows made
abbrev pub trips_made : ℕ → ListedTrips
trips_made zero = no_trips
trips_made (suc k) = record { rows = map trip (numbers (suc k)); routes = codes "R" ∷ []; services = codes "ALL" ∷ [] }

pub ids-of-trips : (n : ℕ) → trip_ids (map trip (numbers n)) ≡ map trip_name (numbers n)
ids-of-trips n = map-map (λ (r : TripRow). r.id) trip (numbers n)

-- a trip more
trip-more : (rows more : List TripRow) (id : List ℕ) (number : ℕ) → number_from 0 id (trip_ids rows) ≡ None → more ≡ rows ++ record { id = id; route = 0; service = 0 } ∷ []
    → with_trip number (codes "R") (codes "ALL") id (record { rows = rows; routes = codes "R" ∷ []; services = codes "ALL" ∷ [] }) ≡ Ok (record { rows = more; routes = codes "R" ∷ []; services = codes "ALL" ∷ [] })
trip-more rows more id number fresh is = rw (fresh, is) refl

trip-good : (k : ℕ) → k < 1000000 → IsGood trip_step trip_header (trip_fields k) (k + 2) (trips_made k) (trips_made (suc k))
trip-good zero small = record { plain = (refl, (refl, (plain-name 71 0 refl, tt))); width = refl; steps = refl }
trip-good (suc k) small = record {
  plain = (refl, (refl, (plain-name 71 (suc k) refl, tt)));
  width = refl;
  steps = trip-more (map trip (numbers (suc k))) (map trip (numbers (suc (suc k)))) (trip_name (suc k)) (suc k + 2) (ap (number_from 0 (trip_name (suc k))) (ids-of-trips (suc k)) ∙ name-fresh trip_name 1000000 (apart 71) (suc k) small) (one-more trip (suc k));
}

-- the same, where there is a train
abbrev pub listed : ℕ → ListedTrips
listed trains = record { rows = map trip (numbers trains); routes = codes "R" ∷ []; services = codes "ALL" ∷ [] }

made-listed : (trains : ℕ) → 1 ≤ trains → trips_made trains ≡ listed trains
made-listed zero some = absurd (omega arith)
made-listed (suc k) some = refl

-- the trips of the feed
pub trips-in : (trains : ℕ) (folder : List ℕ) → 1 ≤ trains → trains ≤ 100000 → trips_in (contents_of (files trains) folder) ≡ Ok (listed trains)
unfolding trips_in table_named trips_table strip_bom
trips-in trains folder some few =
    let there : contents_of (files trains) folder table.Trips ≡ holds (records_of (trips_table trains)) = content-holds (trips_table trains) (tables-short trains folder (codes "trips.txt") few) in
    rw (there, table-made (trips_table trains) trip_columns trip_step trip_header trip_fields trips_made trains refl refl ((refl, (refl, (refl, tt))), omega arith) refl (λ k l. trip-good k (omega arith)), made-listed trains some) refl
