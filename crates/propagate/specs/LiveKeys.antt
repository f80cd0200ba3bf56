-- The keys of the live events, and stored times that are the event times.
use Rattle.std.specs.Prelude.{◌≡◌, List, Bool, true, not, nat_eq, Some, map}
use Rattle.std.specs.List.{AllPairs}
use Rattle.std.specs.List.Sorted.{IsPermutation}
use Rattle.mt_base.specs.declared.keys.Key.{Key}
use Rattle.mt_base.specs.Order.{is_before, node_of}
use Rattle.delay_model.specs.declared.network.Network.{Network}
use Rattle.delay_model.specs.declared.state.State.{State}
use Rattle.delay_model.specs.declared.state.Event.{Event}
use Rattle.delay_model.specs.Events.{live_events}
use Rattle.delay_model.specs.Timing.{event_time}
use Rattle.train_nodes.specs.Times.{StoredTimes, time_of}
use Rattle.edge_rules.specs.AtEvent.{stored_time}
use Rattle.mt_base.specs.Sorted.{in_order}
use Rattle.propagate.specs.declared.time_changes.TimeChange.{TimeChange}

-- the keys of the live events among these
abbrev pub live_keys : List Event → List Key
live_keys es = map (λ (v : Event). v.key) (live_events es)

-- the keys of the live events among these, in their order
abbrev pub key_order : List Event → List Key
key_order es = in_order is_before (live_keys es)

-- these are the keys of the live events, each before those after it
pub record IsOrderOf (es : List Event) (order : List Key) : Type 0 where
  pub moved : IsPermutation (live_keys es) order
  pub ascends : AllPairs (λ a b. is_before a b ≡ true) order

-- the event's time is stored for it
abbrev pub HasItsTime : Network → State → StoredTimes → Key → Type 0
HasItsTime nw st times k = time_of times (node_of k) ≡ Some (event_time nw st k)

-- another time than the event's is stored for it
abbrev pub has_another : Network → State → StoredTimes → Key → Bool
has_another nw st times k = not (nat_eq (stored_time times k) (event_time nw st k))

-- an event that gets its time, in place of the one that is stored for it
abbrev pub time_change_at : Network → State → StoredTimes → Key → TimeChange
time_change_at nw st times k = record {
  key = k;
  was = stored_time times k;
  is = event_time nw st k;
}
