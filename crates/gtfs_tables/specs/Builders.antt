-- Rows of the tables in memory.
use Rattle.std.specs.Prelude.{◌≡◌, ◌+◌, ℕ, List, length}
use Rattle.std.specs.BTreeSet.{contains}
use Rattle.std.specs.Ordering.{nat_cmp}
use Rattle.gtfs_tables.specs.declared.calendar.CalendarTable.{CalendarTable}
use Rattle.gtfs_tables.specs.declared.calendar_dates.DateTable.{DateTable}
use Rattle.gtfs_tables.specs.declared.calls.CallTable.{CallTable}
use Rattle.gtfs_tables.specs.declared.stops.StopLine.{StopLine}
use Rattle.gtfs_tables.specs.declared.stops.StopTable.{StopTable}
use Rattle.gtfs_tables.specs.declared.transfers.TransferTable.{TransferTable}
use Rattle.gtfs_tables.specs.declared.waiting_rules.RuleTable.{RuleTable}
use Rattle.gtfs_tables.specs.Calendar.{Calendar, has_service}
use Rattle.gtfs_tables.specs.CalendarDates.{Dates, has_date}
use Rattle.gtfs_tables.specs.Ids.{AreIds}
use Rattle.gtfs_tables.specs.Numberings.{IsNumbered, names_of}
use Rattle.gtfs_tables.specs.Stops.{line_ids}
use Rattle.gtfs_tables.specs.StopTimes.{Calls, Named, key_cmp}
use Rattle.gtfs_tables.specs.Transfers.{Transfers}
use Rattle.gtfs_tables.specs.Trips.{trip_ids}
use Rattle.gtfs_tables.specs.WaitingRules.{Rules}

-- what the rows of stops.txt made
abbrev pub lines_view : StopTable → List StopLine
lines_view t = t.lines.items

-- how many they are
abbrev pub lines_size : StopTable → ℕ
lines_size t = length t.lines.items

-- stops are found by their ids
abbrev pub IsStopTable : StopTable → Type 0
IsStopTable t = AreIds t.ids (line_ids t.lines.items)

-- what the rows of stop_times.txt made
abbrev pub calls_view : CallTable → Calls
calls_view t = record { rows = t.rows.items; by_key = t.by_key }

-- how many calls they are
abbrev pub calls_size : CallTable → ℕ
calls_size t = length t.rows.items

-- what the rows of stop_times.txt may name
abbrev pub named_of : CallTable → Named
named_of t = record { trips = trip_ids t.trips.now.rows; stops = t.stops.now }

-- what the rows of calendar.txt made
abbrev pub calendar_view : CalendarTable → Calendar
calendar_view t = record { services = names_of t.services; rows = t.rows.items }

-- how many rows and names of services these are
abbrev pub calendar_size : CalendarTable → ℕ
calendar_size t = length (names_of t.services) + length t.rows.items

-- services are found by number, and the keys are the services of the rows
pub record IsKeyedCalendar (t : CalendarTable) : Type 0 where
  pub services : IsNumbered t.services
  pub keys : (service : ℕ) → contains nat_cmp t.keys service ≡ has_service service t.rows.items

-- what the rows of calendar_dates.txt made
abbrev pub dates_view : DateTable → Dates
dates_view t = record { services = names_of t.services; rows = t.rows.items }

-- how many rows and names of services these are
abbrev pub dates_size : DateTable → ℕ
dates_size t = length (names_of t.services) + length t.rows.items

-- services are found by number, and the keys are the services and dates of the rows
pub record IsKeyedDates (t : DateTable) : Type 0 where
  pub services : IsNumbered t.services
  pub keys : (service date : ℕ) → contains key_cmp t.keys (service, date)
      ≡ has_date service date t.rows.items

-- what the rows of transfers.txt made
abbrev pub transfers_view : TransferTable → Transfers
transfers_view t = record { rows = t.rows.items; count = t.count }

-- what the rows of waiting_rules.txt made
abbrev pub rules_view : RuleTable → Rules
rules_view t = record { routes = names_of t.routes; rows = t.rows.items }

-- how many rows and names of routes these are
abbrev pub rules_size : RuleTable → ℕ
rules_size t = length (names_of t.routes) + length t.rows.items
