-- The rows of a trip in `stop_times.txt`, in order, and their times.
use Rattle.std.specs.Prelude.{ℕ, ◌≤◌, List, [], ◌∷◌, Bool, true, ◌&&◌, nat_eq, nat_le, nat_lt, if◌then◌else◌, length, Option, None, Some}
use Rattle.std.specs.List.{filter, filter_map}
use Rattle.mt_base.specs.declared.tables.CallRow.{CallRow}

-- the element before the first whose number is not smaller
abbrev pub put : {X : Type 0} → (X → ℕ) → X → List X → List X
put key x [] = x ∷ []
put key x (y ∷ ys) = if nat_le (key x) (key y) then x ∷ y ∷ ys else y ∷ put key x ys

-- the list in the order of the numbers: elements of one number keep their order
abbrev pub in_order : {X : Type 0} → (X → ℕ) → List X → List X
in_order key [] = []
in_order key (x ∷ xs) = put key x (in_order key xs)

-- the numbers do not fall along the list, nor are they below the first bound
abbrev pub is_rising : {X : Type 0} → (X → ℕ) → ℕ → List X → Bool
is_rising key low [] = true
is_rising key low (x ∷ xs) = nat_le low (key x) && is_rising key (key x) xs

-- the trip of a row, as a row of `trips.txt`
abbrev pub trip_of : CallRow → ℕ
trip_of r = r.trip

-- the place of a row among those of its trip: `stop_sequence`
abbrev pub sequence : CallRow → ℕ
sequence r = r.seq

-- the rows of a trip, in the order of the table
abbrev pub rows_of : List CallRow → ℕ → List CallRow
rows_of calls trip = filter (λ r. nat_eq (trip_of r) trip) calls

-- the trip has calls
abbrev pub has_calls : List CallRow → ℕ → Bool
has_calls calls trip = nat_lt 0 (length (rows_of calls trip))

-- the rows of a trip by `stop_sequence`
abbrev pub calls_of : List CallRow → ℕ → List CallRow
calls_of calls trip = in_order sequence (rows_of calls trip)

-- the arrival and the departure of a row in seconds of its service day, if it has a time: a row
-- with one time uses it for both
abbrev pub both_times : Option ℕ → Option ℕ → Option (ℕ × ℕ)
both_times None None = None
both_times None (Some dep) = Some (dep, dep)
both_times (Some arr) None = Some (arr, arr)
both_times (Some arr) (Some dep) = Some (arr, dep)

-- the arrivals and departures of the rows that have a time
abbrev pub times_of : List CallRow → List (ℕ × ℕ)
times_of rows = filter_map (λ (r : CallRow). both_times r.arr r.dep) rows

-- no arrival is before the departure before it, nor a departure before its arrival
unfoldable pub DoNotFall : ℕ → List (ℕ × ℕ) → Type 0
DoNotFall before [] = Unit {0}
DoNotFall before (call ∷ rest) = (before ≤ call.0) × (call.0 ≤ call.1) × DoNotFall call.1 rest
