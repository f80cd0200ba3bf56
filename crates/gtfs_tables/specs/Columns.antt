-- The columns of tables by name, and where they stand.
use Rattle.std.specs.Prelude.{ℕ, ◌+◌, ◌&&◌, List, [], ◌∷◌, Bool, true, if◌then◌else◌, Some, None, codes, is_some, bytes_eq, slice_index_or}
use Rattle.std.specs.declared.option.Option.{Option}
use Rattle.std.specs.Option.{option_map_or}
use Rattle.gtfs_tables.specs.Fields.{trimmed}
use Rattle.gtfs_tables.specs.declared.columns.Column.{Column}
use Rattle.gtfs_tables.specs.declared.columns.Column.TheVariants.{StopId, LocationType, ParentStation, RouteId, ServiceId, TripId, ArrivalTime, DepartureTime, StopSequence, PickupType, DropOffType, Monday, Tuesday, Wednesday, Thursday, Friday, Saturday, Sunday, StartDate, EndDate, Date, ExceptionType, FromStopId, ToStopId, TransferType, MinTransferTime, FromRouteId, ToRouteId, FromTripId, ToTripId, FeederRouteId, ConnectingRouteId, MaxWait}

-- the name of a column, as a header writes it
abbrev pub column_name : Column → List ℕ
column_name StopId = codes "stop_id"
column_name LocationType = codes "location_type"
column_name ParentStation = codes "parent_station"
column_name RouteId = codes "route_id"
column_name ServiceId = codes "service_id"
column_name TripId = codes "trip_id"
column_name ArrivalTime = codes "arrival_time"
column_name DepartureTime = codes "departure_time"
column_name StopSequence = codes "stop_sequence"
column_name PickupType = codes "pickup_type"
column_name DropOffType = codes "drop_off_type"
column_name Monday = codes "monday"
column_name Tuesday = codes "tuesday"
column_name Wednesday = codes "wednesday"
column_name Thursday = codes "thursday"
column_name Friday = codes "friday"
column_name Saturday = codes "saturday"
column_name Sunday = codes "sunday"
column_name StartDate = codes "start_date"
column_name EndDate = codes "end_date"
column_name Date = codes "date"
column_name ExceptionType = codes "exception_type"
column_name FromStopId = codes "from_stop_id"
column_name ToStopId = codes "to_stop_id"
column_name TransferType = codes "transfer_type"
column_name MinTransferTime = codes "min_transfer_time"
column_name FromRouteId = codes "from_route_id"
column_name ToRouteId = codes "to_route_id"
column_name FromTripId = codes "from_trip_id"
column_name ToTripId = codes "to_trip_id"
column_name FeederRouteId = codes "feeder_route_id"
column_name ConnectingRouteId = codes "connecting_route_id"
column_name MaxWait = codes "max_wait"

-- where the first field with this name stands, counted on from a place; the blanks round a field
-- are passed over
abbrev pub place_from : List ℕ → ℕ → List (List ℕ) → Option ℕ
place_from name at [] = None
place_from name at (field ∷ fields) = if bytes_eq (trimmed field) name then Some at
    else place_from name (at + 1) fields

-- where a column stands in a header
abbrev pub place_of : List (List ℕ) → Column → Option ℕ
place_of header column = place_from (column_name column) 0 header

-- the header has each of the columns
abbrev pub has_columns : List (List ℕ) → List Column → Bool
has_columns header [] = true
has_columns header (column ∷ columns) = is_some (place_of header column)
    && has_columns header columns

-- the field of a row at a place without the blanks round it; empty where there is no such place
abbrev pub field_at_place : List (List ℕ) → Option ℕ → List ℕ
field_at_place fields place = option_map_or (λ at. trimmed (slice_index_or fields at [])) place []

-- the field of a row in a column, by the header; empty where the header has no such column
abbrev pub field_in : List (List ℕ) → List (List ℕ) → Column → List ℕ
field_in header fields column = field_at_place fields (place_of header column)
