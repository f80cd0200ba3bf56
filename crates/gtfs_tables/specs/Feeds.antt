-- The tables of a feed from its files, or the first cause to refuse it.
use Rattle.std.specs.Prelude.{ℕ, List, [], Bool, true, false, nat_lt, if◌then◌else◌, length, Option, None, Some, Result, Ok, Err}
use Rattle.mt_base.specs.declared.tables.CallRow.{CallRow}
use Rattle.mt_base.specs.declared.tables.StopRow.{StopRow}
use Rattle.mt_base.specs.declared.tables.Tables.{Tables}
use Rattle.mt_base.specs.declared.tables.TransferRow.{TransferRow}
use Rattle.mt_base.specs.declared.tables.TripRow.{TripRow}
use Rattle.mt_base.specs.declared.tables.What.{What}
use Rattle.mt_base.specs.declared.tables.What.TheVariants as what
use Rattle.gtfs_tables.specs.declared.faults.Fault.{Fault}
use Rattle.gtfs_tables.specs.declared.faults.Table.{Table}
use Rattle.gtfs_tables.specs.declared.faults.Table.TheVariants as table
use Rattle.gtfs_tables.specs.declared.refusals.FeedRefusal.{FeedRefusal}
use Rattle.gtfs_tables.specs.declared.refusals.FeedRefusal.TheVariants.{Missing, Bad, Frequencies, TooMany, TooLong}
use Rattle.gtfs_tables.specs.Calendar.{Calendar, calendar_of}
use Rattle.gtfs_tables.specs.CalendarDates.{Dates, calendar_dates_of}
use Rattle.gtfs_tables.specs.Checks.{◌>>=◌}
use Rattle.gtfs_tables.specs.Frequencies.{has_rows}
use Rattle.gtfs_tables.specs.Names.{file_name}
use Rattle.gtfs_tables.specs.Records.{records_of}
use Rattle.gtfs_tables.specs.Stops.{stop_ids, stops_of}
use Rattle.gtfs_tables.specs.StopTimes.{stop_times_of}
use Rattle.gtfs_tables.specs.Transfers.{transfers_of}
use Rattle.gtfs_tables.specs.Trips.{ListedTrips, trip_ids, trips_of}
use Rattle.gtfs_tables.specs.WaitingRules.{Rules, waiting_rules_of}

-- the records of a table
abbrev pub Records : Type 0
Records = List (List (List ℕ))

-- what a feed holds of a table: nothing, more than 268,435,456 bytes, or records
pub data Content : Type 0 where
  absent : Content
  too_long : Content
  holds : Records → Content

-- the same, by the bytes of the table's file
abbrev pub content_of : Option (List ℕ) → Content
content_of None = absent
content_of (Some bytes) = if nat_lt 268435456 (length bytes) then too_long else holds
    (records_of bytes)

-- a feed as what it holds of each table
abbrev pub Contents : Type 0
Contents = Table → Content

-- the bytes of each file of each folder
abbrev pub Files : Type 0
Files = List ℕ → List ℕ → Option (List ℕ)

-- the feed in a folder, by its files
abbrev pub contents_of : Files → List ℕ → Contents
contents_of files folder t = content_of (files folder (file_name t))

-- ---- one table

-- a fault of a table is a refusal of the feed
abbrev pub unless_bad : {A : Type 0} → Table → Result A Fault → Result A FeedRefusal
unless_bad t (Ok x) = Ok x
unless_bad t (Err f) = Err (Bad t f.row f.cause)

-- the records of a table that is asked for, where there is such a table
abbrev pub fetched : Table → Content → Result (Option Records) FeedRefusal
fetched t absent = Ok None
fetched t too_long = Err (TooLong t)
fetched t (holds records) = Ok (Some records)

-- what reading makes of a table that is there, and what stands for one that is absent
abbrev pub read_content : {A : Type 0} → Table → Result A FeedRefusal → (Records → Result A Fault)
    → Content → Result A FeedRefusal
read_content t otherwise read absent = otherwise
read_content t otherwise read too_long = Err (TooLong t)
read_content t otherwise read (holds records) = unless_bad t (read records)

-- a table that must be there
abbrev pub needed : {A : Type 0} → Table → (Records → Result A Fault) → Content
    → Result A FeedRefusal
needed t read content = read_content t (Err (Missing t)) read content

-- more rows than a table may have are a refusal
abbrev pub at_most : ℕ → What → ℕ → Result (Unit {0}) FeedRefusal
at_most most w count = if nat_lt most count then Err (TooMany w) else Ok tt

-- ---- the tables in the order of their reading

-- the stops, stations and other locations: at most 100,000 rows
unfoldable pub stops_in : Contents → Result (List StopRow) FeedRefusal
stops_in contents = do
  stops ← needed table.Stops stops_of (contents table.Stops)
  _ ← at_most 100000 what.Stops (length stops)
  Ok stops

-- the trips with their routes and services
unfoldable pub trips_in : Contents → Result ListedTrips FeedRefusal
trips_in contents = needed table.Trips trips_of (contents table.Trips)

-- the calls of the trips
unfoldable pub calls_in : Contents → List StopRow → List TripRow → Result (List CallRow) FeedRefusal
calls_in contents stops trips = needed table.StopTimes (stop_times_of (record {
  trips = trip_ids
      trips;
  stops = stops;
})) (contents table.StopTimes)

-- the weekdays of services, by the names of services so far; an absent table has no rows
unfoldable pub calendar_in : Contents → List (List ℕ) → Result Calendar FeedRefusal
calendar_in contents services = read_content table.Calendar (Ok (record {
  services = services;
  rows = [];
})) (calendar_of services) (contents table.Calendar)

-- a table that is not there
abbrev pub is_absent : Content → Bool
is_absent absent = true
is_absent too_long = false
is_absent (holds records) = false

-- the dates of services; an absent table has no rows, but one of the two calendars must be there
unfoldable pub dates_in : Contents → List (List ℕ) → Result Dates FeedRefusal
dates_in contents services =
    read_content table.CalendarDates
    (if is_absent (contents table.Calendar) then Err (Missing table.Calendar)
    else Ok (record { services = services; rows = [] }))
    (calendar_dates_of services) (contents table.CalendarDates)

-- the changes: at most 1,000,000 rows, those that are not listed among them
unfoldable pub transfers_in : Contents → List StopRow → Result (List TransferRow) FeedRefusal
transfers_in contents stops = do
  transfers ← read_content table.Transfers (Ok (record { rows = []; count = 0 }))
      (transfers_of (stop_ids stops)) (contents table.Transfers)
  _ ← at_most 1000000 what.Transfers transfers.count
  Ok transfers.rows

-- the waiting rules, by the names of routes so far: at most 10,000 rows
unfoldable pub rules_in : Contents → List StopRow → List (List ℕ) → Result Rules FeedRefusal
rules_in contents stops routes = do
  rules ← read_content table.WaitingRules (Ok (record { routes = routes; rows = [] }))
      (waiting_rules_of stops routes) (contents table.WaitingRules)
  _ ← at_most 10000 what.Rules (length rules.rows)
  Ok rules

-- trips that run at intervals are refused
abbrev pub unless_frequencies : Bool → Result (Unit {0}) FeedRefusal
unless_frequencies found = if found then Err Frequencies else Ok tt

-- no trip runs at intervals
unfoldable pub frequencies_in : Contents → Result (Unit {0}) FeedRefusal
frequencies_in contents = do
  found ← read_content table.Frequencies (Ok false) (λ records. Ok (has_rows records))
      (contents table.Frequencies)
  unless_frequencies found

-- the tables of a feed, or the first cause to refuse it
unfoldable pub tables_of : Contents → Result Tables FeedRefusal
tables_of contents = do
  stops ← stops_in contents
  trips ← trips_in contents
  calls ← calls_in contents stops trips.rows
  calendar ← calendar_in contents trips.services
  dates ← dates_in contents calendar.services
  transfers ← transfers_in contents stops
  rules ← rules_in contents stops trips.routes
  _ ← frequencies_in contents
  Ok (record {
    stops = stops;
    routes = rules.routes;
    services = dates.services;
    trips = trips.rows;
    calls = calls;
    calendar = calendar.rows;
    dates = dates.rows;
    transfers = transfers;
    rules = rules.rows;
  })
