-- The live departures of a state, each with its time, in the order of their times.
use Rattle.std.specs.Prelude.{◌≡◌, ℕ, ◌+◌, ◌*◌, List, Bool, true, false, nat_le, Contains, filter}
use Rattle.std.specs.Prelude.{if◌then◌else◌, length, map}
use Rattle.std.specs.List.{AllPairs}
use Rattle.std.specs.List.Sorted.{IsPermutation}
use Rattle.std.specs.Option.{option_map_or}
use Rattle.mt_base.specs.declared.keys.Key.{Key}
use Rattle.mt_base.specs.Order.{is_before}
use Rattle.delay_model.specs.declared.network.Network.{Network}
use Rattle.delay_model.specs.declared.state.Call.{Call}
use Rattle.delay_model.specs.declared.state.State.{State}
use Rattle.delay_model.specs.declared.state.Event.{Event}
use Rattle.delay_model.specs.Events.{events}
use Rattle.delay_model.specs.Timing.{event_time}
use Rattle.train_nodes.specs.Calls.{call_named}
use Rattle.train_nodes.specs.Times.{StoredTimes}
use Rattle.edge_rules.specs.AtEvent.{stored_time}
use Rattle.dep_order.specs.declared.departure.Departure.{Departure}
pub use Rattle.dep_order.specs.Departing.{leaves_before}
use Rattle.mt_base.specs.Sorted.{in_order}
use Rattle.timetable.specs.LiveTimes.{live_keys}

-- each leaves before those after it
abbrev pub AreInOrder : List Departure → Type 0
AreInOrder ds = AllPairs (λ a b. leaves_before a b ≡ true) ds

-- the stop of an event
abbrev pub stop_of : State → Key → ℕ
stop_of st k = option_map_or (λ (c : Call). c.stop) (call_named st k.train k.label) 0

-- whether passengers may board at the call of an event
abbrev pub may_board : State → Key → Bool
may_board st k = option_map_or (λ (c : Call). c.board) (call_named st k.train k.label) false

-- the stop where passengers may board at the call of an event: its own, or the number past all
-- stops where nobody may
abbrev pub boarding_stop : Network → State → Key → ℕ
boarding_stop nw st k = if may_board st k then stop_of st k else length nw.stops

-- the departure of this key at this time
abbrev pub departing_at : Network → State → ℕ → Key → Departure
departing_at nw st time k = record { time = time; key = k; stop = boarding_stop nw st k }

-- the departure of this key, at its event's time
abbrev pub departing : Network → State → Key → Departure
departing nw st k = departing_at nw st (event_time nw st k) k

-- the departure of this key, at the time that is stored for it
abbrev pub stored_departure : Network → State → StoredTimes → Key → Departure
stored_departure nw st times k = departing_at nw st (stored_time times k) k

abbrev pub is_departure : Key → Bool
is_departure k = k.dep

-- these are the departures among the events of these keys, each at the time that is stored for it,
-- in the order of their keys
pub record AreListed (nw : Network) (st : State) (times : StoredTimes) (keys : List Key)
    (ds : List Departure) : Type 0 where
  pub moved : IsPermutation (map (stored_departure nw st times) (filter is_departure keys)) ds
  pub ascends : AllPairs (λ a b. is_before a.key b.key ≡ true) ds

-- the live departures of a state, in their order
unfoldable pub live_departures : Network → State → List Departure
live_departures nw st =
    in_order leaves_before (map (departing nw st) (filter is_departure (live_keys (events st))))

-- those at a time or later
abbrev pub departures_from : Network → State → ℕ → List Departure
departures_from nw st from = filter (λ d. nat_le from d.time) (live_departures nw st)

-- for how many departures there are numbers where this state is the first: one for each that is
-- live, and two for each call that can still be made
abbrev pub departure_room : State → ℕ
departure_room st = length (filter is_departure (live_keys (events st))) + 2 * st.spare_calls

-- it is a live departure of the state, at its event's time
pub record IsDeparture (nw : Network) (st : State) (d : Departure) : Type 0 where
  pub event : Event
  pub there : Contains (events st) event
  pub live : event.live ≡ true
  pub key : event.key ≡ d.key
  pub departs : d.key.dep ≡ true
  pub time : d.time ≡ event_time nw st d.key
  pub stop : d.stop ≡ boarding_stop nw st d.key
