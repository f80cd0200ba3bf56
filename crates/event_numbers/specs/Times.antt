-- Stored times by event.
use Rattle.std.specs.Prelude.{◌≡◌, ℕ, ◌+◌, ◌-◌, ◌*◌, List, [], ◌∷◌, ◌++◌, Bool, if◌then◌else◌, Option, is_some, slice_get, slice_set, map, replicate, length}
use Rattle.std.specs.Option.{option_and_then}
use Rattle.mt_base.specs.declared.keys.Node.{Node}
use Rattle.event_numbers.specs.Lists.{change_at}

-- for each train the times that are stored for its events, in the order of its labels and of each
-- label the arrival first; and for how many more trains and calls there is room
pub record StoredTimes : Type 0 where
  pub trains : List (List ℕ)
  pub spare_trains : ℕ
  pub spare_calls : ℕ

-- the place of an event among those of its train
abbrev pub place_of : Node → ℕ
place_of n = 2 * n.label + (if n.dep then 1 else 0)

-- the time that is stored for an event, if there is one
unfoldable pub time_of : StoredTimes → Node → Option ℕ
time_of k n = option_and_then (λ ts. slice_get ts (place_of n)) (slice_get k.trains n.train)

-- a time is stored for the event
abbrev pub has_time : StoredTimes → Node → Bool
has_time k n = is_some (time_of k n)

-- another time for an event
abbrev pub with_time : Node → ℕ → StoredTimes → StoredTimes
with_time n time k = record k {
  trains = change_at n.train (λ ts. slice_set ts (place_of n) time)
      k.trains;
}

-- the time of an event that was never settled: 2^25 - 1, which no event has by the rule for times
abbrev pub no_time : ℕ
no_time = 33554431

-- so many times that no event has: two for each label
abbrev pub blank_times : ℕ → List ℕ
blank_times labels = replicate (2 * labels) no_time

-- times for one more train, which has so many labels
abbrev pub with_train_times : ℕ → StoredTimes → StoredTimes
with_train_times labels k =
    record {
      trains = k.trains ++ blank_times labels ∷ [];
      spare_trains = k.spare_trains - 1;
      spare_calls = k.spare_calls - labels;
    }

-- times for so many more labels of a train
abbrev pub with_labels : ℕ → ℕ → StoredTimes → StoredTimes
with_labels train labels k =
    record k {
      trains = change_at train (λ ts. ts ++ blank_times labels) k.trains;
      spare_calls = k.spare_calls - labels;
    }

-- the times of each train are those of so many labels
abbrev pub AreSized : List ℕ → StoredTimes → Type 0
AreSized labels k = map length k.trains ≡ map (λ n. 2 * n) labels
