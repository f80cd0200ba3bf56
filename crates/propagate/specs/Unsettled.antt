-- Which events may have another value by the stored times after a message.
use Rattle.std.specs.Prelude.{◌≡◌, List, Bool, ◌||◌, Some, All, filter}
use Rattle.std.specs.List.{list_any}
use Rattle.mt_base.specs.declared.keys.Key.{Key}
use Rattle.mt_base.specs.Order.{node_of, is_same_node}
use Rattle.delay_model.specs.declared.messages.Message.{Message}
use Rattle.delay_model.specs.declared.network.Network.{Network}
use Rattle.delay_model.specs.declared.state.Edge.{Edge}
use Rattle.delay_model.specs.declared.state.Event.{Event}
use Rattle.delay_model.specs.declared.state.State.{State}
use Rattle.delay_model.specs.Edges.{edges}
use Rattle.delay_model.specs.Effect.{effect}
use Rattle.delay_model.specs.Events.{events}
use Rattle.delay_model.specs.Touched.{is_fed_by, live_only, named}
use Rattle.train_nodes.specs.Times.{StoredTimes, no_time, time_of}
use Rattle.edge_rules.specs.Deciding.{may_change}
use Rattle.propagate.specs.LiveKeys.{HasItsTime, live_keys}

-- an edge that may change the time of the event to which it leads, where one that has no time yet
-- gets one, leads to this key from one of these events
abbrev pub is_fed_by_new : List Edge → List Event → Key → Bool
is_fed_by_new gs es k = is_fed_by (filter (may_change no_time no_time) gs) es k

-- the event may have another value after a message than the time that is stored for it: the message
-- names it, or it was fed by an event that the message takes away, or it is fed by one that the
-- message makes
abbrev pub is_unsettled : Network → State → Message → Key → Bool
is_unsettled nw st m k =
    let new = effect st m in
    list_any (is_same_node (node_of k)) (named st m)
    || (is_fed_by (edges nw st) (live_only (events st) (events new)) k
    || is_fed_by_new (edges nw new) (live_only (events new) (events st)) k)

-- after a message the time before it is stored for each event that was live, and for each other
-- live event the time that no event has
pub record AreStored (nw : Network) (old new : State) (times : StoredTimes) : Type 0 where
  pub known : All (HasItsTime nw old times) (live_keys (events old))
  pub made : All (λ v. time_of times (node_of v.key) ≡ Some no_time)
      (live_only (events new) (events old))
