-- How names are stored, and the numbers that they stand for.
use Rattle.std.specs.Prelude.{◌≡◌, ℕ, [], ◌∷◌, List, Option, IsSome, true, false, Bool, nat_eq, bytes_eq, slice_index_or, slice_get, ◌&&◌}
use Rattle.std.specs.Option.{option_map_or}
use Rattle.mt_base.specs.declared.places.PlaceKind.{PlaceKind}
use Rattle.mt_base.specs.declared.tables.TripRow.{TripRow}
use Rattle.delay_model.specs.Names.{TrainName}
use Rattle.schedule_build.specs.Directory.{Place, number_from}

-- the number of the first name that is equal to a name
abbrev pub number_of_name : List (List ℕ) → List ℕ → Option ℕ
number_of_name names name = number_from 0 (λ n. bytes_eq n name) names

-- the number of the first place with an id
abbrev pub number_of_place : List Place → List ℕ → Option ℕ
number_of_place places id = number_from 0 (λ (p : Place). bytes_eq p.id id) places

-- the number of the first train of a trip on a service day
abbrev pub number_of_train : List TrainName → List ℕ → ℕ → Option ℕ
number_of_train trains trip day =
    number_from 0 (λ (t : TrainName). bytes_eq t.trip trip && nat_eq t.day day) trains

-- the name is one of these
abbrev pub HasName : List (List ℕ) → List ℕ → Type 0
HasName names name = IsSome (number_of_name names name)

-- the `trip_id` of a row of `trips.txt`, or the empty name where there is none
abbrev pub trip_of_row : List TripRow → ℕ → List ℕ
trip_of_row trips row = option_map_or (λ (t : TripRow). t.id) (slice_get trips row) []

-- the trip of each row that is marked has its name among these
pub record AreSeen (trips : List TripRow) (marks : List Bool) (names : List (List ℕ))
    : Type 0 where
  pub seen : (row : ℕ) → slice_index_or marks row false ≡ true → HasName names (trip_of_row trips row)

-- places by their ids and their kinds
abbrev pub seen_places : List (List ℕ) → List PlaceKind → List Place
seen_places [] kinds = []
seen_places (id ∷ ids) [] = []
seen_places (id ∷ ids) (kind ∷ kinds) = record { id = id; kind = kind } ∷ seen_places ids kinds
