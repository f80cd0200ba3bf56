-- What the rows of `stops.txt` mean, or the first fault in them (GTFS Schedule, stops.txt).
use Rattle.std.specs.Prelude.{ℕ, ◌+◌, ◌==◌, ◌&&◌, not, List, [], ◌∷◌, ◌++◌, Bool, false, length, map, if◌then◌else◌, Some, None, Result, Ok, is_none, option_and_then, option_map, slice_get}
use Rattle.std.specs.declared.option.Option.{Option}
use Rattle.std.specs.Option.{option_map_or}
use Rattle.mt_base.specs.declared.tables.StopRow.{StopRow}
use Rattle.mt_base.specs.Places.{is_platform, is_station}
use Rattle.gtfs_tables.specs.declared.columns.Column.{Column}
use Rattle.gtfs_tables.specs.declared.columns.Column.TheVariants.{StopId, LocationType, ParentStation}
use Rattle.gtfs_tables.specs.declared.faults.Cause.TheVariants.{BadNumber, DuplicateKey, UnknownReference}
use Rattle.gtfs_tables.specs.declared.faults.Fault.{Fault}
use Rattle.gtfs_tables.specs.declared.stops.StopLine.{StopLine}
use Rattle.gtfs_tables.specs.Checks.{Step, fault, need, check, table_from, ◌>>=◌}
use Rattle.gtfs_tables.specs.Fields.{location_kind}
use Rattle.gtfs_tables.specs.Numbers.{number_from}

-- the column that the table needs
abbrev pub stop_columns : List Column
stop_columns = StopId ∷ []

-- the columns that it may have, in the order of their checks
abbrev pub other_stop_columns : List Column
other_stop_columns = LocationType ∷ ParentStation ∷ []

-- a row by itself from its texts, or the fault in it: only the `location_type` can be wrong
abbrev pub stop_of : ℕ → List ℕ → List ℕ → List ℕ → Result StopLine Fault
stop_of row id kind parent = need (fault row BadNumber) (location_kind kind) >>= λ k.
    Ok (record { id = id; kind = k; parent = parent })

-- the ids of rows
abbrev pub line_ids : List StopLine → List (List ℕ)
line_ids lines = map (λ (line : StopLine). line.id) lines

-- the rows with one more, whose `stop_id` no earlier row has
abbrev pub with_stop : ℕ → StopLine → List StopLine → Result (List StopLine) Fault
with_stop row line lines = check (fault row DuplicateKey)
    (is_none (number_from 0 line.id (line_ids lines))) >>= λ _. Ok (lines ++ line ∷ [])

-- the rows with one more, by its texts
abbrev pub stop_added : ℕ → List ℕ → List ℕ → List ℕ → List StopLine → Result (List StopLine) Fault
stop_added row id kind parent lines = stop_of row id kind parent >>= λ line.
    with_stop row line lines

-- what a row makes of the rows so far
abbrev pub stop_step : Step (List StopLine)
stop_step row field lines = stop_added row (field StopId) (field LocationType)
    (field ParentStation) lines

-- the row with a number is a station
abbrev pub has_station : List StopLine → ℕ → Bool
has_station lines n = option_map_or (λ (line : StopLine). is_station line.kind)
    (slice_get lines n) false

-- the number of the station with an id
abbrev pub station_in : List StopLine → List ℕ → Option ℕ
station_in lines id = option_and_then (λ n. if has_station lines n then Some n else None)
    (number_from 0 id (line_ids lines))

-- a stop or platform with a `parent_station`; that of other rows is not looked at
abbrev pub has_parent : StopLine → Bool
has_parent line = is_platform line.kind && not (length line.parent == 0)

-- the number of the station that a row belongs to; a `parent_station` that is no station's id is a
-- fault of the row
abbrev pub parent_of : List StopLine → ℕ → StopLine → Result (Option ℕ) Fault
parent_of lines row line = if has_parent line then need (fault row UnknownReference)
    (option_map (λ n. Some n) (station_in lines line.parent)) else Ok None

-- the rows with their stations: the rows before the row of a number as they are given, then the
-- others in their order
unfoldable pub with_stations : List StopLine → ℕ → List StopRow → List StopLine
    → Result (List StopRow) Fault
with_stations lines row rows [] = Ok rows
with_stations lines row rows (line ∷ rest) = do
  parent ← parent_of lines row line
  with_stations lines (row + 1) (rows ++ record { id = line.id; kind = line.kind; parent = parent }
      ∷ []) rest

-- the ids of the stops
abbrev pub stop_ids : List StopRow → List (List ℕ)
stop_ids rows = map (λ (row : StopRow). row.id) rows

-- the table, by all its records: its rows one after the other, and then the stations that they name
unfoldable pub stops_of : List (List (List ℕ)) → Result (List StopRow) Fault
stops_of all = do
  lines ← table_from stop_columns stop_step [] all
  with_stations lines 2 [] lines
