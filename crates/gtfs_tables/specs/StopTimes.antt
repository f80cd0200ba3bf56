-- What the rows of `stop_times.txt` mean, or the first fault in them (GTFS Schedule,
-- stop_times.txt).
use Rattle.std.specs.Prelude.{ℕ, ◌≡◌, ◌==◌, ◌&&◌, ◌||◌, not, List, [], ◌∷◌, ◌++◌, Bool, false, nat_le, if◌then◌else◌, Some, None, Result, Ok, Err, is_none, is_some, unwrap_or, slice_get, option_and_then}
use Rattle.std.specs.declared.option.Option.{Option}
use Rattle.std.specs.Option.{option_map_or}
use Rattle.std.specs.declared.cmp.Ordering.{Ordering}
use Rattle.std.specs.declared.cmp.Ordering.TheVariants.{Greater}
use Rattle.std.specs.Ordering.{nat_cmp, ordering_then}
use Rattle.std.specs.BTreeMap.{insert_entry, is_at}
use Rattle.std.specs.List.{AllByRecursion}
use Rattle.std.specs.Map.{lookup}
use Rattle.mt_base.specs.declared.tables.CallRow.{CallRow}
use Rattle.mt_base.specs.declared.tables.StopRow.{StopRow}
use Rattle.mt_base.specs.Places.{is_platform}
use Rattle.gtfs_tables.specs.declared.columns.Column.{Column}
use Rattle.gtfs_tables.specs.declared.columns.Column.TheVariants.{TripId, ArrivalTime, DepartureTime, StopId, StopSequence, PickupType, DropOffType}
use Rattle.gtfs_tables.specs.declared.faults.Cause.TheVariants.{BadTime, BadNumber, UnknownReference, DuplicateKey, TooFewCalls, UntimedEnd, BackwardsTimes}
use Rattle.gtfs_tables.specs.declared.faults.Fault.{Fault}
use Rattle.gtfs_tables.specs.declared.keyed_calls.CallTimes.{CallTimes}
use Rattle.gtfs_tables.specs.Checks.{Step, fault, need, check, table_from, ◌>>=◌}
use Rattle.gtfs_tables.specs.Fields.{time_of, number_of, number_or_zero}
use Rattle.gtfs_tables.specs.Numbers.{number_from}
use Rattle.gtfs_tables.specs.Stops.{stop_ids}

-- the columns that the table needs, in the order of their checks
abbrev pub needed_columns : List Column
needed_columns = TripId ∷ ArrivalTime ∷ DepartureTime ∷ StopId ∷ StopSequence ∷ []

-- the columns that it may have, in the order of their checks
abbrev pub other_columns : List Column
other_columns = PickupType ∷ DropOffType ∷ []

-- what a row may name: the trips by the ids of trips.txt, and the rows of stops.txt
pub record Named : Type 0 where
  pub trips : List (List ℕ)
  pub stops : List StopRow

-- the location of a number is a stop or platform
abbrev pub is_stop : List StopRow → ℕ → Bool
is_stop stops n = option_map_or (λ (row : StopRow). is_platform row.kind) (slice_get stops n) false

-- the number of the stop or platform with an id
abbrev pub stop_named : List StopRow → List ℕ → Option ℕ
stop_named stops id = option_and_then (λ n. if is_stop stops n then Some n else None)
    (number_from 0 id (stop_ids stops))

-- a pickup or drop-off of type 1 is forbidden, and every other one is regular
abbrev pub is_regular : ℕ → Bool
is_regular kind = not (kind == 1)

-- a row from its texts, or the first fault in them
unfoldable pub call_of : Named → ℕ → List ℕ → List ℕ → List ℕ → List ℕ → List ℕ → List ℕ → List ℕ
    → Result CallRow Fault
call_of named row trip arr dep stop seq pickup drop_off = do
  t ← need (fault row UnknownReference) (number_from 0 trip named.trips)
  a ← need (fault row BadTime) (time_of arr)
  d ← need (fault row BadTime) (time_of dep)
  p ← need (fault row UnknownReference) (stop_named named.stops stop)
  s ← need (fault row BadNumber) (number_of seq)
  u ← need (fault row BadNumber) (number_or_zero pickup)
  o ← need (fault row BadNumber) (number_or_zero drop_off)
  Ok (record {
    trip = t;
    stop = p;
    seq = s;
    arr = a;
    dep = d;
    board = is_regular u;
    alight = is_regular o;
  })

-- the number of a trip, and a stop_sequence
abbrev pub Key : Type 0
Key = ℕ × ℕ

-- calls by trip, and the calls of a trip by stop_sequence
abbrev pub key_cmp : Key → Key → Ordering
key_cmp a b = ordering_then (nat_cmp a.0 b.0) (nat_cmp a.1 b.1)

-- the keys of entries are below a key
abbrev pub AreBelow : Key → List (Key × CallTimes) → Type 0
AreBelow key es = AllByRecursion (λ e. key_cmp key e.0 ≡ Greater) es

-- what the rows so far made: the rows, and the times of the calls in the order of their keys
pub record Calls : Type 0 where
  pub rows : List CallRow
  pub by_key : List (Key × CallTimes)

-- before the first row
abbrev pub no_calls : Calls
no_calls = record { rows = []; by_key = [] }

-- the calls with one row more, whose key no earlier row has
unfoldable pub with_call : ℕ → CallRow → Calls → Result Calls Fault
with_call row call s =
    check (fault row DuplicateKey)
    (is_none (lookup (is_at (key_cmp (call.trip, call.seq))) s.by_key))
    >>= λ _. Ok (record {
      rows = s.rows ++ call ∷ [];
      by_key = insert_entry key_cmp s.by_key (call.trip, call.seq) (record {
        row = row;
        arr = call.arr;
        dep = call.dep;
      });
    })

-- what a row makes of the calls so far, by what it may name
abbrev pub call_step : Named → Step Calls
call_step named row field s =
    call_of named row (field TripId) (field ArrivalTime) (field DepartureTime) (field StopId)
    (field StopSequence) (field PickupType) (field DropOffType)
    >>= λ call. with_call row call s

-- the call has a time
abbrev pub is_timed : CallTimes → Bool
is_timed call = is_some call.arr || is_some call.dep

-- the arrival of a call that has a time; one time is used for both
abbrev pub arrival : CallTimes → ℕ
arrival call = unwrap_or call.arr (unwrap_or call.dep 0)

-- the departure of a call that has a time
abbrev pub departure : CallTimes → ℕ
departure call = unwrap_or call.dep (unwrap_or call.arr 0)

-- the last of calls that follow one
abbrev pub last_call : CallTimes → List CallTimes → CallTimes
last_call call [] = call
last_call call (next ∷ rest) = last_call next rest

-- no call with a time arrives before the departure of the one before it, or departs before it
-- arrives
unfoldable pub check_order : ℕ → List CallTimes → Result (Unit {0}) Fault
check_order before [] = Ok tt
check_order before (call ∷ rest) =
    if is_timed call then (if nat_le before (arrival call) && nat_le (arrival call) (departure call)
    then check_order (departure call) rest else Err (fault call.row BackwardsTimes))
    else check_order before rest

-- the calls of a trip by stop_sequence: more than one, the first and then the last with a time, and
-- the times in order
unfoldable pub check_trip : List CallTimes → Result (Unit {0}) Fault
check_trip [] = Ok tt
check_trip (call ∷ []) = Err (fault call.row TooFewCalls)
check_trip (call ∷ next ∷ rest) = do
  _ ← check (fault call.row UntimedEnd) (is_timed call)
  _ ← check (fault (last_call next rest).row UntimedEnd) (is_timed (last_call next rest))
  check_order 0 (call ∷ next ∷ rest)

-- trip by trip, where the calls of one trip stand together: the calls of the current trip that were
-- passed, and the rest
unfoldable pub check_trips : ℕ → List CallTimes → List (Key × CallTimes) → Result (Unit {0}) Fault
check_trips trip passed [] = check_trip passed
check_trips trip passed (entry ∷ rest) =
    if entry.0.0 == trip then check_trips trip (passed ++ entry.1 ∷ []) rest
    else (check_trip passed >>= λ _. check_trips entry.0.0 (entry.1 ∷ []) rest)

-- the table, by what it may name and all its records: its rows one after the other, and then its
-- trips in the order of trips.txt
unfoldable pub stop_times_of : Named → List (List (List ℕ)) → Result (List CallRow) Fault
stop_times_of named all = do
  calls ← table_from needed_columns (call_step named) no_calls all
  _ ← check_trips 0 [] calls.by_key
  Ok calls.rows
