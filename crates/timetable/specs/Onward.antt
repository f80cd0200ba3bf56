-- What stands beside each live departure: where and when its train arrives next, and the number of
-- its departure from there.
use Rattle.std.specs.Prelude.{◌≡◌, ℕ, ◌⊎◌, ◌<◌, ◌≤◌, List, true, Option, None, Some, length}
use Rattle.std.specs.Prelude.{if◌then◌else◌}
use Rattle.std.specs.Option.{option_map}
use Rattle.mt_base.specs.declared.keys.Key.{Key}
use Rattle.mt_base.specs.Order.{node_of}
use Rattle.delay_model.specs.declared.network.Network.{Network}
use Rattle.delay_model.specs.declared.state.Call.{Call}
use Rattle.delay_model.specs.declared.state.State.{State}
use Rattle.delay_model.specs.Effect.{node_at}
use Rattle.delay_model.specs.Events.{arrival_of, calls_of}
use Rattle.delay_model.specs.Timing.{event_time}
use Rattle.train_nodes.specs.Calls.{call_named, label_after}
use Rattle.dep_order.specs.declared.departure.Departure.{Departure}
use Rattle.dep_order.specs.declared.departure.Onward.{Onward}
use Rattle.dep_order.specs.Departing.{departures_in_order, held}
use Rattle.dep_order.specs.Ordered.{Ordered, onward_at}
use Rattle.timetable.specs.Departures.{live_departures}

-- what stands beside the departure of this key is right: its train's next call, where the arrival
-- is live, when it arrives there, where passengers may alight, and the number of its departure from
-- there, which is no departure's where the train ends there
pub record IsOnward (nw : Network) (st : State) (es : List (Option Departure)) (k : Key)
    (o : Onward) : Type 0 where
  pub label : ℕ
  pub is_next : label_after (calls_of st k.train) k.label ≡ Some label
  pub call : Call
  pub found : call_named st k.train label ≡ Some call
  pub arrives : call.arrival.live ≡ true
  pub arrival : o.arrival ≡ event_time nw st (arrival_of k.train 0 call).key
  pub to : o.to ≡ (if call.alight then call.stop else length nw.stops)
  pub next : option_map (λ (d : Departure). node_of d.key) (held es o.next)
      ≡ (if call.departure.live then Some (node_at k.train label true) else None)
  pub within : o.next ≤ length es

-- the order is that of the live departures of the state, each with what its train does next
pub record IsDepartureOrder (nw : Network) (st : State) (o : Ordered) : Type 0 where
  pub departures : o.departures ≡ live_departures nw st
  pub entries : o.departures ≡ departures_in_order o.entries
  pub onward : (n : ℕ) (d : Departure) → held o.entries n ≡ Some d
      → IsOnward nw st o.entries d.key (onward_at o n)
  -- the number of the departure after it was given, or no departure can ever have it: so none that
  -- is put in gets the number where a train ends
  pub given : (n : ℕ) (d : Departure) → held o.entries n ≡ Some d
      → ((onward_at o n).next < o.used) ⊎ ((onward_at o n).next ≡ length o.entries)
