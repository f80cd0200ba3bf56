-- What the tables of a feed keep.
use Rattle.std.specs.Prelude.{ℕ, ◌≡◌, ◌≢◌, ◌<◌, ◌≤◌, ◌^◌, List, [], ◌∷◌, All, IfSome, IsSomeAnd, IsSome, length, map, slice_get}
use Rattle.mt_base.specs.declared.places.PlaceKind.{PlaceKind}
use Rattle.mt_base.specs.declared.places.PlaceKind.TheVariants.{Platform, Station}
use Rattle.mt_base.specs.declared.tables.CalendarRow.{CalendarRow}
use Rattle.mt_base.specs.declared.tables.CallRow.{CallRow}
use Rattle.mt_base.specs.declared.tables.DateRow.{DateRow}
use Rattle.mt_base.specs.declared.tables.RuleRow.{RuleRow}
use Rattle.mt_base.specs.declared.tables.StopRow.{StopRow}
use Rattle.mt_base.specs.declared.tables.Tables.{Tables}
use Rattle.mt_base.specs.declared.tables.TransferRow.{TransferRow}
use Rattle.mt_base.specs.declared.tables.TripRow.{TripRow}
use Rattle.mt_base.specs.Civil.{IsCivil}
use Rattle.feed_tables.specs.Calls.{sequence, calls_of, times_of, both_times, DoNotFall}

-- no two are equal
unfoldable pub AreDistinct : {X : Type 0} → List X → Type 0
AreDistinct [] = Unit {0}
AreDistinct (x ∷ xs) = All (λ y. x ≢ y) xs × AreDistinct xs

-- the location of a number is there, and of this kind
abbrev pub HasKind : List StopRow → PlaceKind → ℕ → Type 0
HasKind stops kind n = IsSomeAnd (slice_get stops n) (λ (s : StopRow). s.kind ≡ kind)

-- a `parent_station` is a station, and stands at stops and platforms alone
pub record IsLocation (stops : List StopRow) (row : StopRow) : Type 0 where
  pub parent : IfSome row.parent (λ n. (row.kind ≡ Platform) × HasKind stops Station n)

-- a trip has one of so many routes, and one of so many services
pub record IsTrip (routes services : ℕ) (row : TripRow) : Type 0 where
  pub route : row.route < routes
  pub service : row.service < services

-- a call is of one of so many trips, at a stop or platform, and its times are at most 99:59:59
pub record IsCall (stops : List StopRow) (trips : ℕ) (row : CallRow) : Type 0 where
  pub trip : row.trip < trips
  pub stop : HasKind stops Platform row.stop
  pub arr : IfSome row.arr (λ t. t ≤ 359999)
  pub dep : IfSome row.dep (λ t. t ≤ 359999)

-- a row of `calendar.txt` is of one of so many services, from a date of the calendar to another
pub record IsWeekly (services : ℕ) (row : CalendarRow) : Type 0 where
  pub service : row.service < services
  pub first : IsCivil row.first
  pub last : IsCivil row.last

-- a row of `calendar_dates.txt` is of one of so many services and a date of the calendar
pub record IsException (services : ℕ) (row : DateRow) : Type 0 where
  pub service : row.service < services
  pub date : IsCivil row.date

-- a row of `transfers.txt` is between two of so many locations
pub record IsTransfer (stops : ℕ) (row : TransferRow) : Type 0 where
  pub from_stop : row.from_stop < stops
  pub to_stop : row.to_stop < stops

-- a row of `waiting_rules.txt` names routes and a location that are there, and no wait is above
-- 86,400 seconds
pub record IsRule (stops routes : ℕ) (row : RuleRow) : Type 0 where
  pub feeder : IfSome row.feeder (λ r. r < routes)
  pub connecting : IfSome row.connecting (λ r. r < routes)
  pub stop : IfSome row.stop (λ s. s < stops)
  pub longest : row.max_wait ≤ 86400

-- the last of the rows that follow one
abbrev pub last_row : CallRow → List CallRow → CallRow
last_row row [] = row
last_row row (next ∷ rest) = last_row next rest

-- a row has a time
abbrev pub IsTimed : CallRow → Type 0
IsTimed row = IsSome (both_times row.arr row.dep)

-- the first and the last of the rows have a time, and there are two rows at least, if there is one
abbrev pub HasTimedEnds : List CallRow → Type 0
HasTimedEnds [] = Unit {0}
HasTimedEnds (row ∷ rest) = (1 ≤ length rest) × IsTimed row × IsTimed (last_row row rest)

-- the rows of a trip by `stop_sequence`: no two have one place, the ends have times, and times do
-- not fall
pub record IsTripwise (rows : List CallRow) : Type 0 where
  pub sequences : AreDistinct (map sequence rows)
  pub ends : HasTimedEnds rows
  pub in_order : DoNotFall 0 (times_of rows)

-- the tables of which a feed may have any number of rows have fewer than 2^32 of them
pub record HasFewRows (t : Tables) : Type 0 where
  pub routes : length t.routes < 2 ^ 32
  pub services : length t.services < 2 ^ 32
  pub trips : length t.trips < 2 ^ 32
  pub calls : length t.calls < 2 ^ 32
  pub calendar : length t.calendar < 2 ^ 32
  pub dates : length t.dates < 2 ^ 32

-- no table has more rows than it may have
pub record KeepsRowLimits (t : Tables) : Type 0 where
  pub stops : length t.stops ≤ 100000
  pub transfers : length t.transfers ≤ 1000000
  pub rules : length t.rules ≤ 10000
  pub others : HasFewRows t

-- no name of a table stands there twice
pub record HasDistinctNames (t : Tables) : Type 0 where
  pub stops : AreDistinct (map (λ (s : StopRow). s.id) t.stops)
  pub trips : AreDistinct (map (λ (r : TripRow). r.id) t.trips)
  pub routes : AreDistinct t.routes
  pub services : AreDistinct t.services

-- what the tables of a feed keep: every number is a row of its table, names are distinct, the calls
-- of each trip are in order, and no table has more rows than it may have
pub record IsLawful (t : Tables) : Type 0 where
  pub stops : All (IsLocation t.stops) t.stops
  pub trips : All (IsTrip (length t.routes) (length t.services)) t.trips
  pub calls : All (IsCall t.stops (length t.trips)) t.calls
  pub calendar : All (IsWeekly (length t.services)) t.calendar
  pub dates : All (IsException (length t.services)) t.dates
  pub transfers : All (IsTransfer (length t.stops)) t.transfers
  pub rules : All (IsRule (length t.stops) (length t.routes)) t.rules
  pub names : HasDistinctNames t
  pub tripwise : (trip : ℕ) → IsTripwise (calls_of t.calls trip)
  pub limits : KeepsRowLimits t
