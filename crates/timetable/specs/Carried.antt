-- What is known of the departures once a message was applied, before what stands beside each of
-- them is made right again.
use Rattle.std.specs.Prelude.{◌≡◌, ℕ, ◌≤◌, ◌⊎◌, List, true, false, Option, None, Some, length}
use Rattle.std.specs.Option.{option_map}
use Rattle.delay_model.specs.declared.messages.Message.{Message}
use Rattle.delay_model.specs.declared.messages.Message.TheVariants.{Reroute}
use Rattle.delay_model.specs.declared.network.Network.{Network}
use Rattle.delay_model.specs.declared.state.Call.{Call}
use Rattle.delay_model.specs.declared.state.State.{State}
use Rattle.delay_model.specs.Events.{arrival_of, events}
use Rattle.delay_model.specs.Timing.{event_time}
use Rattle.delay_model.specs.Touched.{is_live_key}
use Rattle.train_nodes.specs.Calls.{call_named}
use Rattle.train_nodes.specs.Times.{StoredTimes}
use Rattle.propagate.specs.declared.time_changes.TimeChange.{TimeChange}
use Rattle.dep_order.specs.declared.departure.Departure.{Departure}
use Rattle.dep_order.specs.Departing.{held}
use Rattle.dep_order.specs.Ordered.{Ordered, onward_at}
use Rattle.timetable.specs.Departures.{live_departures}
use Rattle.timetable.specs.Marking.{IsStateAfter}
use Rattle.timetable.specs.Moved.{time_changes_of}
use Rattle.timetable.specs.Onward.{IsDepartureOrder}
use Rattle.timetable.specs.Shapes.{IsPrepared}

-- the departure that has a number now has the key of the one that had it before, and the same
-- stands beside it
pub record IsHeldStill (before now : Ordered) (n : ℕ) (d : Departure) : Type 0 where
  pub departure : Departure
  pub held_before : held before.entries n ≡ Some departure
  pub key : departure.key ≡ d.key
  pub onward : onward_at now n ≡ onward_at before n

-- the departure that has a number now was not live before, and the number was not given before
pub record IsPutIn (old : State) (before : Ordered) (n : ℕ) (d : Departure) : Type 0 where
  pub new : is_live_key (events old) d.key ≡ false
  pub fresh : before.used ≤ n

-- each departure that has a number had it before, or has a number that was not given before, and
-- each that had a number and is live still has it still
pub record AreNumbersKept (old new : State) (before now : Ordered) : Type 0 where
  pub kept : (n : ℕ) (d : Departure) → held now.entries n ≡ Some d
      → IsHeldStill before now n d ⊎ IsPutIn old before n d
  pub stays : (n : ℕ) (d : Departure) → held before.entries n ≡ Some d
      → is_live_key (events new) d.key ≡ true
      → option_map (λ (e : Departure). e.key) (held now.entries n) ≡ Some d.key
  pub used : before.used ≤ now.used
  pub lengths : length now.entries ≡ length before.entries

-- a message was applied to a state with its departures and what stands beside each, and the
-- departures are those of the new state
pub record IsCarried (nw : Network) (old new : State) (m : Message) (times : StoredTimes)
    (before now : Ordered) : Type 0 where
  pub step : IsStateAfter nw old new m
  pub prepared : IsPrepared nw old new times
  pub order_before : IsDepartureOrder nw old before
  pub departures : now.departures ≡ live_departures nw new
  pub numbers : AreNumbersKept old new before now

-- before a rerouting the time of the arrival to which the new calls lead was noted
abbrev pub IsNoted : Network → State → Message → Option ℕ → Type 0
IsNoted nw st (Reroute train from to via) noted =
    option_map (λ (c : Call). event_time nw st (arrival_of train 0 c).key) (call_named st train to)
    ≡ noted
IsNoted nw st _ noted = noted ≡ None

-- so it is for some state before the message, with the times that were stored when it was applied:
-- what was noted, and which events got other times
pub record IsCarriedTo (nw : Network) (new : State) (m : Message) (noted : Option ℕ)
    (changes : List TimeChange) (now : Ordered) : Type 0 where
  pub old : State
  pub times : StoredTimes
  pub before : Ordered
  pub carried : IsCarried nw old new m times before now
  pub is_noted : IsNoted nw old m noted
  pub changes_are : changes ≡ time_changes_of nw new times
