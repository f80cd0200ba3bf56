-- How stored slots are seen, and what holds of them.
use Rattle.std.specs.Prelude.{◌≡◌, ℕ, suc, ◌+◌, ◌<◌, ◌≤◌, ◌^◌, List, [], ◌∷◌, ◌++◌, Some, nat_eq, map, filter, length, slice_get, vec_capacity}
use Rattle.event_numbers.specs.declared.slots.TrainSlots.{TrainSlots}
use Rattle.event_numbers.specs.declared.slots.AddedCall.{AddedCall}
use Rattle.event_numbers.specs.declared.slots.Slots.TheInside.{Inside}
use Rattle.event_numbers.specs.Numbering.{NumberedTrain, Numbering, slot_of, slots_from}

-- the slots of the calls that reroutings of a train made
abbrev pub added_slots : ℕ → List AddedCall → List ℕ
added_slots train added = map (λ (c : AddedCall). c.slot)
    (filter (λ (c : AddedCall). nat_eq c.train train) added)

-- a train by its row
abbrev pub numbered_train : List AddedCall → ℕ → TrainSlots → NumberedTrain
numbered_train added train r = record {
  loaded = r.loaded;
  slots = slots_from r.first r.loaded
      ++ added_slots train added;
}

-- trains by their rows, from this number on
abbrev pub numbered_trains : List AddedCall → ℕ → List TrainSlots → List NumberedTrain
numbered_trains added train [] = []
numbered_trains added train (r ∷ rs) = numbered_train added train r ∷ numbered_trains added
    (suc train) rs

abbrev pub seen : Inside → Numbering
seen a = record {
  trains = numbered_trains a.added.items 0 a.records.items;
  used = a.used;
  spare_trains = a.spare_trains;
  spare_calls = a.spare_calls;
}

-- the entry at a place is that of a train which so many entries of the train stand before
pub record IsEntry (added : List AddedCall) (place t n : ℕ) : Type 0 where
  pub entry : AddedCall
  pub is : slice_get added place ≡ Some entry
  pub train : entry.train ≡ t
  pub nth : entry.nth ≡ n

-- the place is that of an entry of the train which at most so many entries of the train stand
-- before; fewer, unless none do
pub record IsJump (added : List AddedCall) (place t n : ℕ) : Type 0 where
  pub to : ℕ
  pub there : IsEntry added place t to
  pub not_after : to ≤ n
  pub before : 0 < n → to < n

-- an entry says how many of its train stand before it, and names the one before it and an earlier
-- one
pub record IsLink (added : List AddedCall) (e : AddedCall) : Type 0 where
  pub slot : slice_get (added_slots e.train added) e.nth ≡ Some e.slot
  pub before : (n : ℕ) → e.nth ≡ suc n → IsEntry added e.before e.train n
  pub jump : IsJump added e.jump e.train e.nth

abbrev pub AreLinked : List AddedCall → Type 0
AreLinked added = (place : ℕ) (e : AddedCall) → slice_get added place ≡ Some e → IsLink added e

-- the row of a train: how many calls were added to it, and the last entry of it
pub record IsSlotRow (added : List AddedCall) (used train : ℕ) (r : TrainSlots) : Type 0 where
  pub count : length (added_slots train added) ≡ r.added
  pub last : (n : ℕ) → r.added ≡ suc n → IsEntry added r.last train n
  pub within : r.first + r.loaded ≤ used
  pub small : r.loaded + r.added ≤ used
  pub some : 1 ≤ r.loaded

-- each slot is a used one, no slot is that of two calls, and each used slot is that of a call
pub record IsNumbering (n : Numbering) : Type 0 where
  pub below : (train label slot : ℕ) → slot_of n train label ≡ Some slot → slot < n.used
  pub once : (t l u m slot : ℕ) → slot_of n t l ≡ Some slot → slot_of n u m ≡ Some slot
      → (t ≡ u) × (l ≡ m)
  pub taken : (slot : ℕ) → slot < n.used → (train : ℕ) × (label : ℕ)
      × (slot_of n train label ≡ Some slot)

-- the entries are linked and of trains that are there, there is room for the spare trains and
-- calls, and slots are numbers of 31 bits
pub record AreStored (a : Inside) : Type 0 where
  pub linked : AreLinked a.added.items
  pub owned : (train : ℕ) → length a.records.items ≤ train → added_slots train a.added.items ≡ []
  pub records : (train : ℕ) (r : TrainSlots) → slice_get a.records.items train ≡ Some r
      → IsSlotRow a.added.items a.used train r
  pub numbering : IsNumbering (seen a)
  pub records_room : length a.records.items + a.spare_trains ≤ vec_capacity a.records
  pub added_room : length a.added.items + a.spare_calls ≤ vec_capacity a.added
  pub records_small : length a.records.items + a.spare_trains < 2 ^ 32
  pub added_small : length a.added.items ≤ a.used
  pub calls_small : a.used + a.spare_calls < 2 ^ 31
