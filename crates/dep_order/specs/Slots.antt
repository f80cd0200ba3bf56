-- What is kept for the number of a departure.
use Rattle.std.specs.Prelude.{ℕ, List, if◌then◌else◌, nat_eq, get_or, Option, None, Some}
use Rattle.std.specs.Prelude.{true}
use Rattle.dep_order.specs.declared.departure.Departure.{Departure}
use Rattle.dep_order.specs.declared.departure.Onward.{Onward}
use Rattle.dep_order.specs.declared.slot_table.Cold.{Cold}
use Rattle.dep_order.specs.declared.slot_table.Hot.{Hot}

-- what is kept for a number: the departure that has it, or had it, what its train does next, and
-- which departures stand beside it
pub record Slot : Type 0 where
  pub time : ℕ
  pub stop : ℕ
  pub arrival : ℕ
  pub to : ℕ
  pub next : ℕ
  pub after : ℕ
  pub scheduled : ℕ
  pub train : ℕ
  pub label : ℕ
  pub before : ℕ

-- its two parts
abbrev pub hot_part : Slot → Hot
hot_part s = record {
  time = s.time;
  stop = s.stop;
  arrival = s.arrival;
  to = s.to;
  next = s.next;
  after = s.after;
}

abbrev pub cold_part : Slot → Cold
cold_part s =
    record { scheduled = s.scheduled; train = s.train; label = s.label; before = s.before }

-- what stands for the departure before it where no departure has the number
abbrev pub no_departure : ℕ
no_departure = 4294967294

-- what stands for no departure in a link
abbrev pub nobody : ℕ
nobody = 4294967295

-- what is kept for a number that was not given, of so many
abbrev pub fresh_slot : ℕ → Slot
fresh_slot room = record {
  time = 0;
  stop = 0;
  arrival = 0;
  to = 0;
  next = room;
  after = nobody;
  scheduled = 0;
  train = 0;
  label = 0;
  before = no_departure;
}

-- what is kept for a number
abbrev pub slot_at : List Slot → ℕ → Slot
slot_at ss number = get_or ss number (fresh_slot 0)

-- the departure that a slot keeps, also once it was taken out
abbrev pub stored_in : Slot → Departure
stored_in s = record {
  time = s.time;
  key = record { time = s.scheduled; train = s.train; label = s.label; dep = true };
  stop = s.stop;
}

-- the departure in a slot, if one is there
abbrev pub departure_in : Slot → Option Departure
departure_in s = if nat_eq s.before no_departure then None else Some (stored_in s)

-- what its train does next
abbrev pub onward_in : Slot → Onward
onward_in s = record { arrival = s.arrival; to = s.to; next = s.next }

-- the slot, in which a departure is put between two others
abbrev pub with_departure : Departure → ℕ → ℕ → Slot → Slot
with_departure d before after s =
    record s {
      time = d.time;
      stop = d.stop;
      after = after;
      scheduled = d.key.time;
      train = d.key.train;
      label = d.key.label;
      before = before;
    }

-- the slot, with what the train of its departure does next
abbrev pub with_onward : Onward → Slot → Slot
with_onward o s = record s { arrival = o.arrival; to = o.to; next = o.next }
