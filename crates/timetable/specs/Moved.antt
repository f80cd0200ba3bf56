-- Departures that get other times, moved to their places.
use Rattle.std.specs.Prelude.{◌≡◌, ◌≢◌, ℕ, List, ◌++◌, Bool, true, ◌&&◌, not, All, Contains, filter, length, map}
use Rattle.std.specs.List.{AllPairs, list_any}
use Rattle.mt_base.specs.declared.keys.Node.{Node}
use Rattle.mt_base.specs.Order.{is_same, is_same_node, node_of}
use Rattle.delay_model.specs.declared.network.Network.{Network}
use Rattle.delay_model.specs.declared.state.State.{State}
use Rattle.delay_model.specs.Events.{events}
use Rattle.train_nodes.specs.Times.{StoredTimes}
use Rattle.propagate.specs.declared.time_changes.TimeChange.{TimeChange}
use Rattle.propagate.specs.LiveKeys.{has_another, key_order, live_keys, time_change_at}
use Rattle.dep_order.specs.declared.departure.Departure.{Departure}
use Rattle.mt_base.specs.Sorted.{in_order}
use Rattle.timetable.specs.Departures.{departing_at, leaves_before}

-- the event is a departure
abbrev pub departs : TimeChange → Bool
departs r = r.key.dep

-- the departure of an event that gets another time, at that time
abbrev pub departing_then : Network → State → TimeChange → Departure
departing_then nw st r = departing_at nw st r.is r.key

-- the departure is of one of these events
abbrev pub is_of_one : List TimeChange → Departure → Bool
is_of_one rs d = list_any (λ r. is_same r.key d.key) rs

-- these departures, and those among the events that get other times at these, in their order
unfoldable pub with_times : Network → State → List TimeChange → List Departure → List Departure
with_times nw st rs ds =
    let moved = filter departs rs in
    in_order leaves_before
    (map (departing_then nw st) moved ++ filter (λ d. not (is_of_one moved d)) ds)

-- these departures are those of live events
abbrev pub AreLiveDepartures : State → List Departure → Type 0
AreLiveDepartures st ds = All (λ d. Contains (live_keys (events st)) d.key × (d.key.dep ≡ true)) ds

-- the departure is what it is at its call
abbrev pub IsAtCall : Network → State → Departure → Type 0
IsAtCall nw st d = d ≡ departing_at nw st d.time d.key

-- the event is live
abbrev pub IsOfLive : State → TimeChange → Type 0
IsOfLive st r = Contains (live_keys (events st)) r.key

-- these departures are those of live events, as they are at their calls; each of these events is
-- live, and it gets one time
pub record AreTimeChanges (nw : Network) (st : State) (rs : List TimeChange)
    (ds : List Departure) : Type 0 where
  pub live : AreLiveDepartures st ds
  pub at_calls : All (IsAtCall nw st) ds
  pub once : AllPairs (λ a b. a.key ≢ b.key) rs
  pub there : All (IsOfLive st) rs

-- the event departs, and its departure is not among these
abbrev pub is_new_to : List Departure → TimeChange → Bool
is_new_to ds r = departs r && not (list_any (λ d. is_same d.key r.key) ds)

-- how many departures of these events are not among these
abbrev pub count_new : List Departure → List TimeChange → ℕ
count_new ds rs = length (filter (is_new_to ds) rs)

-- the departure is not that of one of these events
abbrev pub is_of_none : List Node → Departure → Bool
is_of_none ns d = not (list_any (is_same_node (node_of d.key)) ns)

-- the live events for which another time than theirs is stored, in the order of their keys
abbrev pub time_changes_of : Network → State → StoredTimes → List TimeChange
time_changes_of nw st times =
    map (time_change_at nw st times) (filter (has_another nw st times) (key_order (events st)))
