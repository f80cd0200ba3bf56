-- How the names of trains are stored.
use Rattle.std.specs.Prelude.{◌≡◌, ℕ, ◌+◌, ◌*◌, ◌<◌, ◌≤◌, [], List, All, Some, length, nat_eq, ◌&&◌, slice_index_or}
use Rattle.delay_model.specs.Names.{TrainName}
use Rattle.schedule_build.specs.declared.buckets.Entry.{Entry}
use Rattle.schedule_build.specs.declared.train_names.StoredTrain.{StoredTrain}
use Rattle.schedule_build.specs.Buckets.{first_number, has_key}
use Rattle.schedule_build.specs.Directory.{number_from}
use Rattle.schedule_build.specs.Stored.{number_of_name}

-- the key of a trip on a loaded service day
abbrev pub key_at : ℕ → ℕ → ℕ
key_at trip day = trip * 32 + day

-- the key of a train
abbrev pub train_key : StoredTrain → ℕ
train_key t = key_at t.trip t.day

-- a number by which entries stand: by key, then by number
abbrev pub order_of : Entry → ℕ
order_of e = e.key * 4294967296 + e.number

-- the trip of a train has a small number, and its day is loaded
pub record IsSmall (t : StoredTrain) : Type 0 where
  pub trip : t.trip < 200000
  pub day : t.day < 31

-- the name of a trip by its number
abbrev pub trip_name : List (List ℕ) → StoredTrain → List ℕ
trip_name trips train = slice_index_or trips train.trip []

-- a stored train as contracts see it
abbrev pub seen_train : List (List ℕ) → StoredTrain → TrainName
seen_train trips train = record { trip = trip_name trips train; day = train.day }

-- the number of a train's trip is that of the trip's name
abbrev pub HasTrip : List (List ℕ) → StoredTrain → Type 0
HasTrip trips train = number_of_name trips (trip_name trips train) ≡ Some train.trip

-- the numbers are those of these trains
pub record AreNumbered (trains : List StoredTrain) (numbers : List Entry) : Type 0 where
  pub found : (trip day : ℕ) → day < 31 → first_number (has_key (key_at trip day)) numbers
      ≡ number_from 0 (λ (t : StoredTrain). nat_eq t.trip trip && nat_eq t.day day) trains

-- at most 200,000 trains on loaded days, and as many trips at most, with the numbers that they have
pub record AreNamed (trips : List (List ℕ)) (trains : List StoredTrain) (numbers : List Entry) :
    Type 0 where
  pub few : length trains ≤ 200000
  pub few_trips : length trips ≤ 200000
  pub loaded : All (λ (t : StoredTrain). t.day < 31) trains
  pub has_trips : All (HasTrip trips) trains
  pub numbered : AreNumbered trains numbers
