-- How stored trains are seen, and what holds of them.
use Rattle.std.specs.Prelude.{◌≡◌, ℕ, ◌+◌, ◌-◌, ◌<◌, ◌≤◌, ◌^◌, List, [], ◌∷◌, Some, map, length, slice_get, unwrap_or, All, vec_capacity}
use Rattle.delay_model.specs.declared.state.Call.{Call}
use Rattle.delay_model.specs.declared.state.Train.{Train}
use Rattle.delay_model.specs.declared.state.State.{State}
use Rattle.delay_model.specs.Valid.{HasDistinctLabels}
use Rattle.train_nodes.specs.declared.train_records.TrainRecord.{TrainRecord}
use Rattle.call_lines.specs.declared.stored_call.StoredCall.{StoredCall}
use Rattle.train_nodes.specs.declared.trains.Trains.TheInside.{Inside}
use Rattle.call_lines.specs.Calls.{last_label}
use Rattle.call_lines.specs.Linked.{walk, call_of, HasNextReports}
use Rattle.call_lines.specs.Lines.{IsPlacedAt}
use Rattle.event_numbers.specs.Numbering.{NumberedTrain, slot_of}

-- the slot of a train's first call
abbrev pub first_slot : NumberedTrain → ℕ
first_slot n = unwrap_or (slice_get n.slots 0) 0

-- the stored calls of a train, so many, in its order
abbrev pub line_of : List StoredCall → ℕ → NumberedTrain → List StoredCall
line_of cs len n = walk cs len (first_slot n)

-- a train by its row and its numbers
abbrev pub train_by : List StoredCall → TrainRecord → NumberedTrain → Train
train_by cs r n =
    record {
      day = r.day;
      route = r.route;
      next_label = length n.slots;
      calls = map call_of (line_of cs r.len n);
    }

abbrev pub trains_by : List StoredCall → List TrainRecord → List NumberedTrain → List Train
trains_by cs [] ns = []
trains_by cs (r ∷ rs) [] = []
trains_by cs (r ∷ rs) (n ∷ ns) = train_by cs r n ∷ trains_by cs rs ns

abbrev pub seen : Inside → State
seen a =
    record {
      trains = trains_by a.calls.items a.records.items a.slots.trains;
      overrides = a.overrides.choices;
      spare_trains = a.slots.spare_trains;
      spare_calls = a.slots.spare_calls;
      spare_overrides = a.overrides.spare;
    }

-- calls of a train: no two have one label, each label is below the next one, and that stays a
-- number of 31 bits as long as no more than the spare calls are added
pub record AreLabelled (spare next : ℕ) (cs : List Call) : Type 0 where
  pub distinct : HasDistinctLabels cs
  pub below : All (λ c. c.label < next) cs
  pub some : 0 < length cs
  pub count : length cs ≤ next
  pub small : next + spare < 2 ^ 31

-- the calls of a stored train: as many as its row says, each in the slot of its place, the one
-- with label 0 first, to the last one that it was loaded with, which no rerouting takes out
pub record IsTrainStored (spare : ℕ) (cs : List StoredCall) (train len : ℕ)
    (n : NumberedTrain) : Type 0 where
  pub at : ℕ → ℕ
  pub placed : IsPlacedAt cs train len at
  pub begins : at 0 ≡ first_slot n
  pub reports : HasNextReports (line_of cs len n)
  pub labels : AreLabelled spare (length n.slots) (map call_of (line_of cs len n))
  pub last : last_label (map call_of (line_of cs len n)) ≡ Some (n.loaded - 1)

-- the call of a train that has this label stands in this slot
pub record IsCallAt (cs : List StoredCall) (train label slot : ℕ) : Type 0 where
  pub call : StoredCall
  pub stored : slice_get cs slot ≡ Some call
  pub train_is : call.train ≡ train
  pub label_is : call.label ≡ label

-- each train's calls stand in its line; a call has the slot that its train and label have; and
-- there is room for the spare ones
pub record IsStored (a : Inside) : Type 0 where
  pub trains : (t : ℕ) (r : TrainRecord) (n : NumberedTrain) → slice_get a.records.items t ≡ Some r
      → slice_get a.slots.trains t ≡ Some n
      → IsTrainStored a.slots.spare_calls a.calls.items t r.len n
  pub numbered : (i : ℕ) (x : StoredCall) → slice_get a.calls.items i ≡ Some x
      → slot_of a.slots x.train x.label ≡ Some i
  pub named : (t l i : ℕ) → slot_of a.slots t l ≡ Some i → IsCallAt a.calls.items t l i
  pub records_count : length a.records.items ≡ length a.slots.trains
  pub calls_count : length a.calls.items ≡ a.slots.used
  pub records_room : length a.records.items + a.slots.spare_trains ≤ vec_capacity a.records
  pub calls_room : length a.calls.items + a.slots.spare_calls ≤ vec_capacity a.calls
