-- The tables of so many trains.
use Rattle.std.specs.Prelude.{ℕ, List, [], ◌∷◌, ◌++◌, if◌then◌else◌, Some, None, bytes_eq, codes, decimal}
use Rattle.std.specs.List.{join_with_byte}
use Rattle.std.specs.declared.option.Option.{Option}
use Rattle.feed_gen.specs.Texts.{clock, texts_below}
use Rattle.feed_gen.specs.Trains.{arrival, departure, stop_name, stop_of, trip_name}

-- a row: its fields with a comma between each two, and an LF; 44 is `,`
abbrev pub row : List (List ℕ) → List ℕ
row fields = join_with_byte 44 fields ++ codes "\n"

-- the row of a stop
abbrev pub stop_row : ℕ → List ℕ
stop_row stop = row (stop_name stop ∷ [])

-- the stops, which are the same for every number of trains
unfoldable pub stops_table : List ℕ
stops_table = codes "stop_id\n" ++ texts_below stop_row 100

-- the row of a train's trip
abbrev pub trip_row : ℕ → List ℕ
trip_row train = row (codes "R" ∷ codes "ALL" ∷ trip_name train ∷ [])

-- the trips
unfoldable pub trips_table : ℕ → List ℕ
trips_table trains = codes "route_id,service_id,trip_id\n" ++ texts_below trip_row trains

-- the row of a call
abbrev pub call_row : ℕ → ℕ → List ℕ
call_row train call = row (trip_name train ∷ clock (arrival train call)
    ∷ clock (departure train call) ∷ stop_name (stop_of train call) ∷ decimal call ∷ [])

-- the rows of a train's four calls
abbrev pub train_rows : ℕ → List ℕ
train_rows train = texts_below (call_row train) 4

-- the calls, train by train
unfoldable pub stop_times_table : ℕ → List ℕ
stop_times_table trains =
    codes "trip_id,arrival_time,departure_time,stop_id,stop_sequence\n"
    ++ texts_below train_rows trains

-- the one service, which runs on each day of a year
unfoldable pub calendar_table : List ℕ
calendar_table =
    codes "service_id,monday,tuesday,wednesday,thursday,friday,saturday,sunday,"
    ++ (codes "start_date,end_date\n" ++ codes "ALL,1,1,1,1,1,1,1,20260101,20261231\n")

-- the one rule: each train waits for every other one, for two minutes at most
unfoldable pub waiting_rules_table : List ℕ
waiting_rules_table =
    codes "feeder_route_id,connecting_route_id,stop_id,max_wait\n" ++ codes ",,,120\n"

-- the table of this name, or none where there is no such table
unfoldable pub table_named : ℕ → List ℕ → Option (List ℕ)
table_named trains name =
    if bytes_eq name (codes "stops.txt") then Some stops_table
    else (if bytes_eq name (codes "trips.txt") then Some (trips_table trains)
    else (if bytes_eq name (codes "stop_times.txt") then Some (stop_times_table trains)
    else (if bytes_eq name (codes "calendar.txt") then Some calendar_table
    else (if bytes_eq name (codes "waiting_rules.txt") then Some waiting_rules_table
    else None))))

-- the same tables in every folder
abbrev pub files : ℕ → List ℕ → List ℕ → Option (List ℕ)
files trains folder name = table_named trains name
