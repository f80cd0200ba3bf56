-- The events that a message changes, by name, in the order in which they are listed.
use Rattle.std.specs.Prelude.{◌≡◌, List, ◌++◌, Bool, true, not, ◌||◌, nat_eq, All, Contains, map, filter}
use Rattle.std.specs.List.{AllPairs}
use Rattle.mt_base.specs.declared.keys.Key.{Key}
use Rattle.mt_base.specs.declared.keys.Node.{Node}
use Rattle.mt_base.specs.Order.{is_before, node_of}
use Rattle.delay_model.specs.declared.network.Network.{Network}
use Rattle.delay_model.specs.declared.state.State.{State}
use Rattle.delay_model.specs.declared.state.Event.{Event}
use Rattle.delay_model.specs.Events.{events}
use Rattle.delay_model.specs.Timing.{event_time}
use Rattle.delay_model.specs.Touched.{changed, is_live_key, live_only, names_of}
use Rattle.timetable.specs.LiveTimes.{live_keys}
use Rattle.mt_base.specs.Sorted.{in_order}

-- an event that is live in the new state was not live in the old one, or has another time
abbrev pub is_changed : Network → State → State → Key → Bool
is_changed nw old new k = not (is_live_key (events old) k) || not
    (nat_eq (event_time nw old k) (event_time nw new k))

-- the names of the events that a message changes, from one state to the other: in the order of the
-- trains those that are no longer live, and then, in the order of their keys, those that are live
-- only now or have another time
unfoldable pub changed_nodes : Network → State → State → List Node
changed_nodes nw old new =
    names_of (live_only (events old) (events new)) ++ map node_of
    (filter (is_changed nw old new) (in_order is_before (live_keys (events new))))

-- it is the name of an event that a message changes, from one state to the other
pub record IsChangedEvent (nw : Network) (old new : State) (n : Node) : Type 0 where
  pub event : Event
  pub there : Contains (changed nw old new) event
  pub named : node_of event.key ≡ n

-- these are the names of the events that are no longer live, in the order of the trains, and then
-- of the live events of keys that rise, which are live only now or have another time
pub record AreInOrder (nw : Network) (old new : State) (ns : List Node) : Type 0 where
  pub keys : List Key
  pub whole : ns ≡ names_of (live_only (events old) (events new)) ++ map node_of keys
  pub ascends : AllPairs (λ a b. is_before a b ≡ true) keys
  pub live : All (Contains (live_keys (events new))) keys
  pub changed : All (λ k. is_changed nw old new k ≡ true) keys
