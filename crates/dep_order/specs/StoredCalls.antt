-- How numbers are stored by the slots of calls, and what holds of them.
use Rattle.std.specs.Prelude.{◌≡◌, ℕ, ◌+◌, ◌≤◌, List, map, length, get_or}
use Rattle.event_numbers.specs.Numbering.{NumberedTrain}
use Rattle.dep_order.specs.declared.call_numbers.CallNumbers.TheInside.{Inside}
use Rattle.dep_order.specs.CallNumbering.{StoredNumbers, no_number}

-- the numbers of each train
abbrev pub trains_at : List ℕ → List NumberedTrain → List (List ℕ)
trains_at numbers trains =
    map (λ (n : NumberedTrain). map (λ s. get_or numbers s no_number) n.slots) trains

abbrev pub seen : Inside → StoredNumbers
seen a = record {
  trains = trains_at a.numbers.items a.slots.trains;
  spare_trains = a.slots.spare_trains;
  spare_calls = a.slots.spare_calls;
}

-- there is a number for each slot, and those of the slots that no call has yet were not set
pub record AreStored (a : Inside) : Type 0 where
  pub all : length a.numbers.items ≡ a.slots.used + a.slots.spare_calls
  pub blank : (i : ℕ) → a.slots.used ≤ i → get_or a.numbers.items i no_number ≡ no_number
