-- How times are stored by slot, and what holds of them.
use Rattle.std.specs.Prelude.{◌≡◌, ℕ, ◌+◌, ◌*◌, ◌<◌, ◌≤◌, List, [], ◌∷◌, Bool, true, false, if◌then◌else◌, Some, map, length, get_or}
use Rattle.mt_base.specs.declared.keys.Node.{Node}
use Rattle.event_numbers.specs.declared.times.NodeTimes.TheInside.{Inside}
use Rattle.event_numbers.specs.Numbering.{NumberedTrain, Numbering, slot_of}
use Rattle.event_numbers.specs.Times.{StoredTimes, no_time, blank_times}

-- the number of the arrival of the call with a slot (dep false), or of its departure
abbrev pub event_number : ℕ → Bool → ℕ
event_number slot dep = 2 * slot + (if dep then 1 else 0)

-- times that no event has, for the calls of each train
abbrev pub blank_trains : Numbering → StoredTimes
blank_trains slots =
    record {
      trains = map (λ (n : NumberedTrain). blank_times (length n.slots)) slots.trains;
      spare_trains = slots.spare_trains;
      spare_calls = slots.spare_calls;
    }

-- the number is that of the event of this name, whose call has a slot
pub record IsNumberOf (slots : Numbering) (n : Node) (i : ℕ) : Type 0 where
  pub slot : ℕ
  pub is : slot_of slots n.train n.label ≡ Some slot
  pub number : i ≡ event_number slot n.dep
  pub used : slot < slots.used

-- the times of the events of calls by their slots
abbrev pub times_at : List ℕ → List ℕ → List ℕ
times_at times [] = []
times_at times (s ∷ ss) = get_or times (event_number s false) no_time ∷ get_or times
    (event_number s true) no_time ∷ times_at times ss

-- the times of each train
abbrev pub trains_at : List ℕ → List NumberedTrain → List (List ℕ)
trains_at times trains = map (λ (n : NumberedTrain). times_at times n.slots) trains

abbrev pub seen : Inside → StoredTimes
seen a = record {
  trains = trains_at a.times.items a.slots.trains;
  spare_trains = a.slots.spare_trains;
  spare_calls = a.slots.spare_calls;
}

-- there are two times for each slot, and those of the slots that no call has yet are no event's
pub record AreHeld (a : Inside) : Type 0 where
  pub all : length a.times.items ≡ 2 * (a.slots.used + a.slots.spare_calls)
  pub blank : (i : ℕ) → 2 * a.slots.used ≤ i → get_or a.times.items i no_time ≡ no_time
