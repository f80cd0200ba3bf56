-- The names of a timetable, and what they stand for.
use Rattle.std.specs.Prelude.{ℕ, zero, suc, ◌+◌, ◌-◌, List, [], ◌∷◌, ◌++◌, Bool, ◌&&◌, if◌then◌else◌, Option, None, Some, nat_eq, bytes_eq, map}
use Rattle.std.specs.Option.{option_map, option_map_or}
use Rattle.std.specs.Prelude.{slice_get}
use Rattle.mt_base.specs.declared.options.Opts.{Opts}
use Rattle.mt_base.specs.declared.places.PlaceKind.{PlaceKind}
use Rattle.mt_base.specs.declared.tables.StopRow.{StopRow}
use Rattle.mt_base.specs.declared.tables.TripRow.{TripRow}
use Rattle.mt_base.specs.declared.tables.Tables.{Tables}
use Rattle.delay_model.specs.Names.{TrainName}
use Rattle.schedule_build.specs.declared.runs.Run.{Run}
use Rattle.schedule_build.specs.declared.service_day.ServiceDay.{ServiceDay}
use Rattle.schedule_build.specs.Bases.{base_at}
use Rattle.schedule_build.specs.Dates.{date_after}
use Rattle.schedule_build.specs.Runs.{all_runs}

-- a place of the feed: its `stop_id` in bytes, and its kind
pub record Place : Type 0 where
  pub id : List ℕ
  pub kind : PlaceKind

-- the loaded days, the places, the routes and the trains, each in the order of their numbers; and
-- for how many extra trains there is still room
pub record Names : Type 0 where
  pub days : List ServiceDay
  pub places : List Place
  pub routes : List (List ℕ)
  pub trains : List TrainName
  pub spare_trains : ℕ

-- ---- from names to numbers

-- the number of the first for which a test holds, counted on from a number
abbrev pub number_from : {X : Type 0} → ℕ → (X → Bool) → List X → Option ℕ
number_from at test [] = None
number_from at test (x ∷ xs) = if test x then Some at else number_from (at + 1) test xs

-- the train of a trip on a service day
unfoldable pub train_named : Names → List ℕ → ℕ → Option ℕ
train_named names trip day = number_from 0 (λ (t : TrainName). bytes_eq t.trip trip
    && nat_eq t.day day) names.trains

-- the loaded day that has a date
unfoldable pub day_named : Names → ℕ → Option ℕ
day_named names date = number_from 0 (λ (d : ServiceDay). nat_eq d.date date) names.days

-- the place with an id
unfoldable pub place_named : Names → List ℕ → Option ℕ
place_named names id = number_from 0 (λ (p : Place). bytes_eq p.id id) names.places

-- the route with an id
unfoldable pub route_named : Names → List ℕ → Option ℕ
route_named names id = number_from 0 (λ r. bytes_eq r id) names.routes

-- ---- from numbers to names. A number that is not there has the empty name, the date 0, the base
-- 0, day 0 and type 0

-- the date of a service day, as the number YYYYMMDD
abbrev pub date_of_day : Names → ℕ → ℕ
date_of_day names day = option_map_or (λ (d : ServiceDay). d.date) (slice_get names.days day) 0

-- the base of a service day, in seconds from the base of day 0
abbrev pub base_of : Names → ℕ → ℕ
base_of names day = option_map_or (λ (d : ServiceDay). d.base) (slice_get names.days day) 0

-- the `trip_id` of a train
abbrev pub trip_of_train : Names → ℕ → List ℕ
trip_of_train names train = option_map_or (λ (t : TrainName). t.trip)
    (slice_get names.trains train) []

-- the service day of a train
abbrev pub day_of_train : Names → ℕ → ℕ
day_of_train names train = option_map_or (λ (t : TrainName). t.day) (slice_get names.trains train) 0

-- the `stop_id` of a place
abbrev pub id_of_place : Names → ℕ → List ℕ
id_of_place names place = option_map_or (λ (p : Place). p.id) (slice_get names.places place) []

-- the kind of a place
abbrev pub kind_of_place : Names → ℕ → Option PlaceKind
kind_of_place names place = option_map (λ (p : Place). p.kind) (slice_get names.places place)

-- ---- one more train

-- the names with one more train, which gets the next number. One extra train less is spare
abbrev pub with_extra : List ℕ → ℕ → Names → Names
with_extra trip day names =
    record names {
      trains = names.trains ++ record { trip = trip; day = day } ∷ [];
      spare_trains = names.spare_trains - 1;
    }

-- ---- the names of a feed

-- so many days from the date `first` on, which have these bases
abbrev pub days_from : ℕ → List ℕ → ℕ → ℕ → List ServiceDay
days_from first bases day zero = []
days_from first bases day (suc days) =
    record { date = date_after first day; base = base_at bases day }
    ∷ days_from first bases (day + 1) days

-- a row of `stops.txt` as a place
abbrev pub place_of_row : StopRow → Place
place_of_row r = record { id = r.id; kind = r.kind }

-- the name of the train of a run
abbrev pub name_of_run : List TripRow → Run → TrainName
name_of_run trips r = record {
  trip = option_map_or (λ (t : TripRow). t.id)
      (slice_get trips r.trip) [];
  day = r.day;
}

-- the names of a feed's timetable of so many days from the date `first` on, which have these bases,
-- with room for what the options spare
abbrev pub names_of : Tables → ℕ → ℕ → List ℕ → Opts → Names
names_of t first days bases o =
    record {
      days = days_from first bases 0 days;
      places = map place_of_row t.stops;
      routes = t.routes;
      trains = map (name_of_run t.trips) (all_runs t first days bases);
      spare_trains = o.spare_trains;
    }
