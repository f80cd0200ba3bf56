-- The tables that a feed gives are lawful.
use Rattle.gtfs_tables.proofs.Words.{rules, ◌≡◌, ℕ, ◌≤◌, List, [], Ok, All, length, subst, arith, length-map, All-nil, CallRow, StopRow, TransferRow, TripRow, calls_of, AreDistinct, IsCall, IsTransfer, IsTripwise, Calendar, Dates, table_from, Contents, Records, stops_in, trips_in, calls_in, calendar_in, dates_in, transfers_in, rules_in, stop_ids, Named, call_step, check_trips, ListedTrips, Rules}
use Rattle.std.proofs.Math.Nat.{le_trans}
use Rattle.mt_base.specs.declared.tables.Tables.{Tables}
use Rattle.feed_tables.specs.Lawful.{IsLawful, HasFewRows}
use Rattle.gtfs_tables.specs.StopTimes.{needed_columns, no_calls, stop_times_of}
use Rattle.gtfs_tables.proofs.LawCalls.{AreCalls, call-added}
use Rattle.gtfs_tables.proofs.LawKeptRows.{alike-none}
use Rattle.gtfs_tables.proofs.LawRules.{AreRules, no-rules, no-transfers, rules-keep, transfers-keep}
use Rattle.gtfs_tables.proofs.LawServices.{IsCalendar, AreDates, calendar-keeps, dates-keep, more-weekly, no-dates, no-weekly}
use Rattle.gtfs_tables.proofs.LawSteps.{bind-ok, ok-same, table-keeps}
use Rattle.gtfs_tables.proofs.LawStops.{AreStops, stops-keep}
use Rattle.gtfs_tables.proofs.LawTrips.{AreTrips, more-names, trips-keep}
use Rattle.gtfs_tables.proofs.LawTripwise.{checked-tripwise}

-- ---- one table

-- the stops, of which there are at most 100,000
record AreFewStops (stops : List StopRow) : Type 0 where
  pub kept : AreStops stops
  pub few : length stops ≤ 100000

stops-read : (contents : Contents) (stops : List StopRow) → stops_in contents ≡ Ok stops → AreFewStops stops
unfolding stops_in
stops-read contents stops h = grind (arith, λ (all : Records). stops-keep all stops)

trips-read : (contents : Contents) (trips : ListedTrips) → trips_in contents ≡ Ok trips → AreTrips trips
unfolding trips_in
trips-read contents trips h = grind (arith, λ (all : Records). trips-keep all trips)

-- the calls, row by row and trip by trip
record AreTripCalls (stops : List StopRow) (trips : ℕ) (rows : List CallRow) : Type 0 where
  pub calls : All (IsCall stops trips) rows
  pub tripwise : (trip : ℕ) → IsTripwise (calls_of rows trip)

calls-keep : (named : Named) (all : Records) (rows : List CallRow) → stop_times_of named all ≡ Ok rows → AreTripCalls named.stops (length named.trips) rows
unfolding stop_times_of
calls-keep named all rows h =
    let p = bind-ok (table_from needed_columns (call_step named) no_calls all) _ rows h in
    let q = bind-ok (check_trips 0 [] p.0.by_key) _ rows p.2 in
    let none : AreCalls named no_calls = record { alike = alike-none; calls = All-nil (IsCall named.stops (length named.trips)) } in
    let k = table-keeps (AreCalls named) (call_step named) (call-added named) needed_columns no_calls p.0 all p.1 none in
    subst (AreTripCalls named.stops (length named.trips)) (ok-same q.2) (record { calls = k.calls; tripwise = checked-tripwise p.0.rows p.0.by_key k.alike q.1 })

calls-read : (contents : Contents) (stops : List StopRow) (trips : List TripRow) (rows : List CallRow) → calls_in contents stops trips ≡ Ok rows → AreTripCalls stops (length trips) rows
unfolding calls_in
calls-read contents stops trips rows h = grind (arith, calls-keep, length-map trips (λ (trip : TripRow). trip.id))

calendar-read : (contents : Contents) (names : List (List ℕ)) (calendar : Calendar) → AreDistinct names → calendar_in contents names ≡ Ok calendar → IsCalendar (length names) calendar
unfolding calendar_in
calendar-read contents names calendar n h = grind (arith, no-weekly names, λ (all : Records). calendar-keeps names all calendar)

dates-read : (contents : Contents) (names : List (List ℕ)) (dates : Dates) → AreDistinct names → dates_in contents names ≡ Ok dates → AreDates (length names) dates
unfolding dates_in
dates-read contents names dates n h = grind (arith, no-dates names, λ (all : Records). dates-keep names all dates)

-- the changes, of which there are at most 1,000,000
record AreFewTransfers (stops : ℕ) (rows : List TransferRow) : Type 0 where
  pub kept : All (IsTransfer stops) rows
  pub few : length rows ≤ 1000000

transfers-read : (contents : Contents) (stops : List StopRow) (rows : List TransferRow) → transfers_in contents stops ≡ Ok rows → AreFewTransfers (length stops) rows
unfolding transfers_in
transfers-read contents stops rows h = grind (arith, transfers-keep (stop_ids stops), no-transfers (length stops), length-map stops (λ (stop : StopRow). stop.id))

-- the rules, of which there are at most 10,000
record AreFewRules (stops least : ℕ) (rules : Rules) : Type 0 where
  pub kept : AreRules stops least rules
  pub few : length rules.rows ≤ 10000

rules-read : (contents : Contents) (stops : List StopRow) (names : List (List ℕ)) (rules : Rules) → AreDistinct names → rules_in contents stops names ≡ Ok rules → AreFewRules (length stops) (length names) rules
unfolding rules_in
rules-read contents stops names rules n h = grind (arith, λ (all : Records). rules-keep stops names all rules, no-rules (length stops) names)

-- tables that were read, each from some feed, are lawful, if there are fewer than 2^32 rows of each of which a feed may have any number
pub tables-lawful : (stops : List StopRow) (trips : ListedTrips) (calls : List CallRow) (calendar : Calendar) (dates : Dates) (transfers : List TransferRow) (rules : Rules) (a b c d e f g : Contents)
    → stops_in a ≡ Ok stops → trips_in b ≡ Ok trips → calls_in c stops trips.rows ≡ Ok calls → calendar_in d trips.services ≡ Ok calendar → dates_in e calendar.services ≡ Ok dates
    → transfers_in f stops ≡ Ok transfers → rules_in g stops trips.routes ≡ Ok rules → (t : Tables)
    → record { stops = stops; routes = rules.routes; services = dates.services; trips = trips.rows; calls = calls; calendar = calendar.rows; dates = dates.rows; transfers = transfers; rules = rules.rows } ≡ t
    → HasFewRows t → IsLawful t
tables-lawful stops trips calls calendar dates transfers rules a b c d e f g is_stops is_trips is_calls is_calendar is_dates is_transfers is_rules t same few =
    let trips_kept = trips-read b trips is_trips in
    let calendar_kept = calendar-read d trips.services calendar trips_kept.services is_calendar in
    let dates_kept = dates-read e calendar.services dates calendar_kept.names is_dates in
    let rules_kept = rules-read g stops trips.routes rules trips_kept.routes is_rules in
    let stops_kept = stops-read a stops is_stops in
    let calls_kept = calls-read c stops trips.rows calls is_calls in
    let transfers_kept = transfers-read f stops transfers is_transfers in
    subst (λ (t : Tables). HasFewRows t → IsLawful t) same (λ few. record {
      stops = stops_kept.kept.locations;
      trips = more-names _ _ _ _ trips.rows rules_kept.kept.longer (le_trans calendar_kept.longer dates_kept.longer) trips_kept.trips;
      calls = calls_kept.calls;
      calendar = more-weekly _ _ calendar.rows dates_kept.longer calendar_kept.rows;
      dates = dates_kept.rows;
      transfers = transfers_kept.kept;
      rules = rules_kept.kept.rows;
      names = record { stops = stops_kept.kept.ids; trips = trips_kept.ids; routes = rules_kept.kept.names; services = dates_kept.names };
      tripwise = calls_kept.tripwise;
      limits = record { stops = stops_kept.few; transfers = transfers_kept.few; rules = rules_kept.few; others = few };
    }) few
