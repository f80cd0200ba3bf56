-- Which slot a call has among all calls, by its train and label.
use Rattle.std.specs.Prelude.{ℕ, zero, suc, ◌+◌, ◌-◌, List, [], ◌∷◌, ◌++◌, Option, slice_get}
use Rattle.std.specs.Option.{option_and_then}
use Rattle.event_numbers.specs.Lists.{change_at}

-- of a train: with how many calls it was loaded, and the slots of its calls by label, those of
-- calls that a rerouting took out among them
pub record NumberedTrain : Type 0 where
  pub loaded : ℕ
  pub slots : List ℕ

-- the slots of all trains' calls, how many slots are used, and for how many more trains and calls
-- there is room
pub record Numbering : Type 0 where
  pub trains : List NumberedTrain
  pub used : ℕ
  pub spare_trains : ℕ
  pub spare_calls : ℕ

-- the slot of the call of a train that has this label, if it was ever made
abbrev pub slot_of : Numbering → ℕ → ℕ → Option ℕ
slot_of nb train label = option_and_then (λ (n : NumberedTrain). slice_get n.slots label)
    (slice_get nb.trains train)

-- so many slots from one on
abbrev pub slots_from : ℕ → ℕ → List ℕ
slots_from first zero = []
slots_from first (suc n) = first ∷ slots_from (first + 1) n

-- one more train of so many calls
abbrev pub with_numbered : ℕ → Numbering → Numbering
with_numbered calls nb =
    record {
      trains = nb.trains ++ record { loaded = calls; slots = slots_from nb.used calls } ∷ [];
      used = nb.used + calls;
      spare_trains = nb.spare_trains - 1;
      spare_calls = nb.spare_calls - calls;
    }

-- so many more calls of a train
abbrev pub with_more : ℕ → ℕ → Numbering → Numbering
with_more train calls nb =
    record nb {
      trains = change_at train (λ (n : NumberedTrain). record n {
        slots = n.slots
            ++ slots_from nb.used calls;
      }) nb.trains;
      used = nb.used + calls;
      spare_calls = nb.spare_calls - calls;
    }
