-- Stored numbers by call.
use Rattle.std.specs.Prelude.{ℕ, ◌-◌, List, [], ◌∷◌, ◌++◌, Bool, Option, is_some, slice_get}
use Rattle.std.specs.Prelude.{slice_set, length, map, replicate}
use Rattle.std.specs.Option.{option_and_then}
use Rattle.event_numbers.specs.Lists.{change_at}

-- for each train the numbers that are stored for its calls, in the order of their labels, and for
-- how many more trains and calls there is room
pub record StoredNumbers : Type 0 where
  pub trains : List (List ℕ)
  pub spare_trains : ℕ
  pub spare_calls : ℕ

-- the number that is stored for the call of a train with a label, if there is such a label
unfoldable pub number_at : StoredNumbers → ℕ → ℕ → Option ℕ
number_at k train label = option_and_then (λ ns. slice_get ns label) (slice_get k.trains train)

-- there is such a label
abbrev pub has_number : StoredNumbers → ℕ → ℕ → Bool
has_number k train label = is_some (number_at k train label)

-- of each train, how many labels it has
abbrev pub labels_of : StoredNumbers → List ℕ
labels_of k = map length k.trains

-- another number for a call
abbrev pub with_number : ℕ → ℕ → ℕ → StoredNumbers → StoredNumbers
with_number train label number k =
    record k { trains = change_at train (λ ns. slice_set ns label number) k.trains }

-- what stands for a number that was not set
abbrev pub no_number : ℕ
no_number = 4294967295

-- numbers for one more train, which has so many labels
abbrev pub with_train_numbers : ℕ → StoredNumbers → StoredNumbers
with_train_numbers labels k =
    record {
      trains = k.trains ++ replicate labels no_number ∷ [];
      spare_trains = k.spare_trains - 1;
      spare_calls = k.spare_calls - labels;
    }

-- numbers for so many more labels of a train
abbrev pub with_label_numbers : ℕ → ℕ → StoredNumbers → StoredNumbers
with_label_numbers train labels k =
    record k {
      trains = change_at train (λ ns. ns ++ replicate labels no_number) k.trains;
      spare_calls = k.spare_calls - labels;
    }
