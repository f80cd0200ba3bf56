-- What stands beside departures, as calls of trains are linked and times of arrivals noted.
use Rattle.std.specs.Prelude.{◌≡◌, ℕ, ◌-◌, ◌<◌, ◌≤◌, List, [], ◌∷◌, Bool, false, ◌&&◌, ◌||◌, nat_eq, nat_le, nat_lt}
use Rattle.std.specs.Prelude.{Option, Some, if◌then◌else◌, length, slice_get, unwrap_or, IsTrue}
use Rattle.std.specs.Option.{option_and_then, option_map, option_map_or}
use Rattle.delay_model.specs.declared.messages.Message.{Message}
use Rattle.delay_model.specs.declared.messages.Message.TheVariants.{Reroute, Extra}
use Rattle.delay_model.specs.declared.network.Network.{Network}
use Rattle.delay_model.specs.declared.state.Call.{Call}
use Rattle.delay_model.specs.declared.state.State.{State}
use Rattle.delay_model.specs.declared.state.Train.{Train}
use Rattle.delay_model.specs.Effect.{node_at}
use Rattle.delay_model.specs.Events.{calls_of}
use Rattle.train_nodes.specs.Calls.{call_named, has_call, label_after, label_before}
use Rattle.train_nodes.specs.Times.{StoredTimes, has_time, time_of}
use Rattle.propagate.specs.declared.time_changes.TimeChange.{TimeChange}
use Rattle.dep_order.specs.declared.departure.Departure.{Departure}
use Rattle.dep_order.specs.declared.departure.Onward.{Onward}
use Rattle.dep_order.specs.Departing.{held}
use Rattle.dep_order.specs.Ordered.{KeepsRoom, Ordered, is_of_call, number_of, number_or_past}
use Rattle.dep_order.specs.Ordered.{onward_at}

-- what becomes of what stands beside a departure
abbrev pub Renewing : Type 0
Renewing = Departure → Onward → Onward

-- what stands beside each departure was renewed, and nothing else
pub record AreRenewed (f : Renewing) (old new : Ordered) : Type 0 where
  pub onwards : (n : ℕ) (d : Departure) → held old.entries n ≡ Some d
      → onward_at new n ≡ f d (onward_at old n)
  pub departures : new.departures ≡ old.departures
  pub entries : new.entries ≡ old.entries
  pub used : new.used ≡ old.used
  pub room : KeepsRoom old new

-- the stop where passengers may alight at a call: its own, or the number past all stops where
-- nobody may
abbrev pub alighting_stop : Network → State → ℕ → ℕ → ℕ
alighting_stop nw st train label =
    option_map_or (λ (c : Call). if c.alight then c.stop else length nw.stops)
    (call_named st train label) 0

-- where the train goes on to from a call, and with which departure from there
abbrev pub gone_on : Network → State → List (Option Departure) → ℕ → ℕ → Onward → Onward
gone_on nw st es train label o =
    option_map_or (λ next. record o {
      to = alighting_stop nw st train next;
      next = number_or_past es train next;
    }) (label_after (calls_of st train) label) o

-- that stands beside the departure of the call
abbrev pub with_call_linked : Network → State → List (Option Departure) → ℕ → ℕ → Renewing
with_call_linked nw st es train label d o =
    if is_of_call train label d then gone_on nw st es train label o else o

-- how many labels a train has used
abbrev pub used_labels : State → ℕ → ℕ
used_labels st train = option_map_or (λ (t : Train). t.next_label) (slice_get st.trains train) 0

-- it stands beside the departure of each call of a train whose label is one of those from `first` to
-- before `end`
abbrev pub with_labels_linked : Network → State → List (Option Departure) → ℕ → ℕ → ℕ → Renewing
with_labels_linked nw st es train first end d o =
    if nat_eq d.key.train train && (nat_le first d.key.label && nat_lt d.key.label end)
    then gone_on nw st es train d.key.label o else o

-- it stands beside the departure of a call, and of those that were made last, so many
abbrev pub with_made_linked : Network → State → List (Option Departure) → ℕ → ℕ → ℕ → Renewing
with_made_linked nw st es train from count d o =
    with_labels_linked nw st es train (used_labels st train - count) (used_labels st train) d
    (with_call_linked nw st es train from d o)

-- the time of an arrival stands beside the departure before it
abbrev pub with_arrival : State → ℕ → ℕ → ℕ → Renewing
with_arrival st train label time d o =
    option_map_or (λ before. if is_of_call train before d
    then record o { arrival = time } else o) (label_before (calls_of st train) label) o

-- so do the times of these arrivals
abbrev pub with_arrivals : State → List TimeChange → Renewing
with_arrivals st [] d o = o
with_arrivals st (r ∷ rs) d o =
    with_arrivals st rs d (if r.key.dep then o
    else with_arrival st r.key.train r.key.label r.is d o)

-- the time that was noted of an arrival stands beside the departure before it
abbrev pub with_noted : State → ℕ → ℕ → Option ℕ → Renewing
with_noted st train to noted d o = option_map_or (λ time. with_arrival st train to time d o) noted o

-- the new calls of a train that a message reroutes are linked, with the one before them, and what was
-- noted stands before the arrival to which they lead; the calls of a train that a message adds are
-- linked
abbrev pub with_shape_linked : Network → State → List (Option Departure) → Message → Option ℕ
    → Renewing
with_shape_linked nw st es (Reroute train from to via) noted d o =
    with_noted st train to noted d (with_made_linked nw st es train from (length via) d o)
with_shape_linked nw st es (Extra train day route calls) noted d o =
    with_labels_linked nw st es train 0 (used_labels st train) d o
with_shape_linked nw st es _ noted d o = o

-- the departures whose calls are linked so
abbrev pub is_relinked : State → Message → ℕ → ℕ → Bool
is_relinked st (Reroute train from to via) t l =
    nat_eq t train && (nat_eq l from
    || (nat_le (used_labels st train - length via) l && nat_lt l (used_labels st train)))
is_relinked st (Extra train day route calls) t l = nat_eq t train && nat_lt l (used_labels st train)
is_relinked st _ t l = false

-- the train is there whose calls are linked, and has used as many labels as it has new calls
abbrev pub CanBeLinked : State → Message → Type 0
CanBeLinked st (Reroute train from to via) =
    (train < length st.trains) × (length via ≤ used_labels st train)
CanBeLinked st (Extra train day route calls) = train < length st.trains
CanBeLinked st _ = Unit {0}

-- the call to which new calls lead is there
abbrev pub HasRejoined : State → Message → Type 0
HasRejoined st (Reroute train from to via) = IsTrue (has_call st train to)
HasRejoined st _ = Unit {0}

-- the call of each of these events is there
abbrev pub HasItsCall : State → TimeChange → Type 0
HasItsCall st r = IsTrue (has_call st r.key.train r.key.label)

-- all that is renewed after a message
abbrev pub with_onward_renewed : Network → State → List (Option Departure) → Message → Option ℕ
    → List TimeChange → Renewing
with_onward_renewed nw st es m noted changes d o =
    with_arrivals st changes d (with_shape_linked nw st es m noted d o)

-- a time is stored for the next arrival
abbrev pub HasNextTime : State → StoredTimes → ℕ → ℕ → Type 0
HasNextTime st times train label =
    (next : ℕ) → label_after (calls_of st train) label ≡ Some next
    → IsTrue (has_time times (node_at train next false))

-- where the train goes on to from a call, with the time that is stored for its arrival there,
-- stands beside the departure of the call
abbrev pub with_stored : Network → State → StoredTimes → List (Option Departure) → ℕ → ℕ → Renewing
with_stored nw st times es train label d o =
    option_map_or (λ next. if is_of_call train label d then record {
      arrival = unwrap_or (time_of times (node_at train next false)) 0;
      to = alighting_stop nw st train next;
      next = number_or_past es train next;
    } else o) (label_after (calls_of st train) label) o

-- when the train arrives at a call, as it stands beside the departure before
abbrev pub arrival_beside : Ordered → State → ℕ → ℕ → Option ℕ
arrival_beside o st train label =
    option_and_then (λ before. option_map (λ n. (onward_at o n).arrival)
    (number_of o.entries train before)) (label_before (calls_of st train) label)
