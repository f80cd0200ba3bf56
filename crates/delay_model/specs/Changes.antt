-- Change times between stops, by stops.txt and transfers.txt.
use Rattle.std.specs.Prelude.{ℕ, max, List, Bool, false, ◌&&◌, nat_eq, nat_le, if◌then◌else◌, Option, Some, None, unwrap_or, slice_get, find}
use Rattle.std.specs.Option.{option_map, option_map_or, option_or}
use Rattle.mt_base.specs.declared.places.PlaceKind.{PlaceKind}
use Rattle.mt_base.specs.declared.tables.StopRow.{StopRow}
use Rattle.mt_base.specs.declared.tables.TransferRow.{TransferRow}
use Rattle.mt_base.specs.Places.{is_platform, is_platform_or_station}

-- what kind of place it is (GTFS Schedule, stops.txt: location_type)
abbrev pub kind_of : List StopRow → ℕ → Option PlaceKind
kind_of stops a = option_map (λ (row : StopRow). row.kind) (slice_get stops a)

-- the place is a stop or platform, where trains call
abbrev pub is_stop : List StopRow → ℕ → Bool
is_stop stops a = option_map_or is_platform (kind_of stops a) false

-- the place is a stop or a station, from which a journey may start
abbrev pub is_stop_or_station : List StopRow → ℕ → Bool
is_stop_or_station stops a = option_map_or is_platform_or_station (kind_of stops a) false

abbrev pub station_by : ℕ → StopRow → ℕ
station_by a row = if is_platform row.kind then unwrap_or row.parent a else a

-- the station of a place: of a platform its parent_station, of any other location itself (GTFS
-- Schedule, stops.txt)
abbrev pub station : List StopRow → ℕ → ℕ
station stops a = option_map_or (station_by a) (slice_get stops a) a

-- the row is one of those that are looked at: of transfer types 0 to 3, between stops and stations
abbrev pub is_looked_at : List StopRow → TransferRow → Bool
is_looked_at stops row =
    nat_le row.kind 3 && (is_stop_or_station stops row.from_stop
    && is_stop_or_station stops row.to_stop)

-- the row is for this pair of places, and is looked at
abbrev pub is_row_of : List StopRow → ℕ → ℕ → TransferRow → Bool
is_row_of stops a b row = (nat_eq row.from_stop a && nat_eq row.to_stop b) && is_looked_at stops row

-- the first row of the file for a pair of places
abbrev pub first_row : List StopRow → List TransferRow → ℕ → ℕ → Option TransferRow
first_row stops rows a b = find (is_row_of stops a b) rows

-- the row that decides: the first of the first of these four pairs that has one
abbrev pub deciding_row : List StopRow → List TransferRow → ℕ → ℕ → Option TransferRow
deciding_row stops rows a b =
    option_or (first_row stops rows a b)
    (option_or (first_row stops rows a (station stops b))
    (option_or (first_row stops rows (station stops a) b)
    (first_row stops rows (station stops a) (station stops b))))

-- what a row says (GTFS Schedule, transfers.txt): type 3 no change, type 2 its seconds, at least 1,
-- else the default
abbrev pub change_by : ℕ → TransferRow → Option ℕ
change_by default row =
    if nat_eq row.kind 3 then None
    else if nat_eq row.kind 2 then Some (option_map_or (λ s. max 1 s) row.seconds default)
    else Some default

-- what no row decides: the default within a station, and else no change
abbrev pub change_without_row : List StopRow → ℕ → ℕ → ℕ → Option ℕ
change_without_row stops default a b = if nat_eq (station stops a) (station stops b)
    then Some default else None

-- the seconds that a change from a to b takes, or None where it is not possible
unfoldable pub change : List StopRow → List TransferRow → ℕ → ℕ → ℕ → Option ℕ
change stops rows default a b =
    option_map_or (change_by default) (deciding_row stops rows a b)
    (change_without_row stops default a b)
