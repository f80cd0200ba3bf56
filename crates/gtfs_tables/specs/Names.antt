-- The names of the tables' files.
use Rattle.std.specs.Prelude.{ℕ, List, codes}
use Rattle.gtfs_tables.specs.declared.faults.Table.{Table}
use Rattle.gtfs_tables.specs.declared.faults.Table.TheVariants.{Stops, Trips, StopTimes, Calendar, CalendarDates, Transfers, WaitingRules, Frequencies}

-- the name of a table's file
abbrev pub file_name : Table → List ℕ
file_name Stops = codes "stops.txt"
file_name Trips = codes "trips.txt"
file_name StopTimes = codes "stop_times.txt"
file_name Calendar = codes "calendar.txt"
file_name CalendarDates = codes "calendar_dates.txt"
file_name Transfers = codes "transfers.txt"
file_name WaitingRules = codes "waiting_rules.txt"
file_name Frequencies = codes "frequencies.txt"
