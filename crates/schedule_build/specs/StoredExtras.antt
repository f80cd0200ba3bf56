-- How the names of extra trains are stored.
use Rattle.std.specs.Prelude.{◌≡◌, ℕ, ◌+◌, ◌≤◌, List, [], IsTrue, All, ◌<◌, length, map, vec_capacity, slice_index_or}
use Rattle.std.specs.Cmp.Lexicographic.{slice_cmp}
use Rattle.std.specs.List.{HoldsAt}
use Rattle.std.specs.List.Sorted.{IsPartitionPoint}
use Rattle.std.specs.FinMap.{get, from_sorted, is_sorted}
use Rattle.std.specs.Ordering.{nat_cmp, ordering_then}
use Rattle.std.specs.declared.cmp.Ordering.{Ordering}
use Rattle.std.specs.declared.cmp.Ordering.TheVariants.{Less, Equal, Greater}
use Rattle.delay_model.specs.Names.{TrainName}
use Rattle.schedule_build.specs.Stored.{number_of_train}
use Rattle.schedule_build.specs.declared.extra_trains.ExtraTrains.TheInside.{Inside}

-- the name of the train of a trip on a service day
abbrev pub name_of : List ℕ → ℕ → TrainName
name_of trip day = record { trip = trip; day = day }

-- the order of names: by trip, then by day
abbrev pub name_cmp : TrainName → TrainName → Ordering
name_cmp a b = ordering_then (slice_cmp nat_cmp a.trip b.trip) (nat_cmp a.day b.day)

-- the name with a number, or the empty name on day 0 where there is none
abbrev pub name_at : List TrainName → ℕ → TrainName
name_at names number = slice_index_or names number (name_of [] 0)

-- a number with its name
abbrev pub entry_of : List TrainName → ℕ → TrainName × ℕ
entry_of names number = (name_at names number, number)

-- at this place in an order stands the number of the name
abbrev pub IsEntry : List TrainName → List ℕ → TrainName → ℕ → Type 0
IsEntry names order name place = HoldsAt (λ (e : TrainName × ℕ). name_cmp e.0 name ≡ Equal)
    (map (entry_of names) order) place

-- a number of the name would stand at this place in an order
abbrev pub IsGap : List TrainName → List ℕ → TrainName → ℕ → Type 0
IsGap names order name place =
    IsPartitionPoint (λ (e : TrainName × ℕ). name_cmp e.0 name ≡ Less) (λ (e : TrainName × ℕ).
    name_cmp e.0 name ≡ Greater) (map (entry_of names) order) place

-- the entries rise by name, and by them each name is found by its number
pub record AreFound (names : List TrainName) (entries : List (TrainName × ℕ)) : Type 0 where
  pub sorted : IsTrue (is_sorted name_cmp entries)
  pub found : (name : TrainName) → get (from_sorted {R = name_cmp} entries) name
      ≡ number_of_train names name.trip name.day

-- the names of the extra trains in the order of their numbers, and for how many more there is room
pub record ExtraNames : Type 0 where
  pub names : List TrainName
  pub spare : ℕ

abbrev pub seen_extras : Inside → ExtraNames
seen_extras a = record { names = a.names.items; spare = a.spare }

-- each name is found by the numbers in order, and there is room for the spare trains
pub record AreStoredExtras (a : Inside) : Type 0 where
  pub found : AreFound a.names.items (map (entry_of a.names.items) a.order.items)
  pub within : All (λ number. number < length a.names.items) a.order.items
  pub room : length a.names.items + a.spare ≤ vec_capacity a.names
  pub order_room : length a.order.items + a.spare ≤ vec_capacity a.order
  pub small : length a.names.items + a.spare ≤ 2000
