-- What messages mean for events and their stored times that change the calls of a train, or which
-- of its events take place.
use Rattle.std.specs.Prelude.{◌≡◌, ℕ, ◌+◌, ◌*◌, ◌<◌, ◌≤◌, true, Contains, length}
use Rattle.std.specs.Option.{option_map}
use Rattle.mt_base.specs.Order.{node_of}
use Rattle.delay_model.specs.declared.network.Network.{Network}
use Rattle.delay_model.specs.declared.state.Call.{Call}
use Rattle.delay_model.specs.declared.state.State.{State}
use Rattle.delay_model.specs.declared.state.Event.{Event}
use Rattle.delay_model.specs.Events.{events}
use Rattle.delay_model.specs.Touched.{live_only}
use Rattle.delay_model.specs.Valid.{IsValid}
use Rattle.train_nodes.specs.Calls.{call_named, has_call}
use Rattle.train_nodes.specs.declared.kinds.Shape.{Shape}
use Rattle.train_nodes.specs.declared.kinds.Shape.TheVariants.{Reroute, Extra}
use Rattle.train_nodes.specs.Times.{StoredTimes, with_train_times, with_labels}
use Rattle.propagate.specs.Unsettled.{AreStored}
use Rattle.timetable.specs.Settled.{HasTimesFor, most_live}

-- the train whose calls are replaced is there, and there is room for the times of the events that
-- are made
abbrev pub HasRoomFor : StoredTimes → Shape → Type 0
HasRoomFor times (Reroute train from to via) = (train < length times.trains)
    × (length via.now ≤ times.spare_calls)
HasRoomFor times (Extra train day route calls) = (0 < times.spare_trains) × (1 ≤ length calls.now)
    × (length calls.now ≤ times.spare_calls)
HasRoomFor times _ = Unit {0}

-- the times, with first ones for the events that are made
abbrev pub with_made : Shape → StoredTimes → StoredTimes
with_made (Reroute train from to via) times = with_labels train (length via.now) times
with_made (Extra train day route calls) times = with_train_times (length calls.now) times
with_made _ times = times

-- a call that is left is at its stop, and passengers may board there or may not, as before
pub record IsCallKept (old new : State) (train label : ℕ) : Type 0 where
  pub stop : option_map (λ (c : Call). c.stop) (call_named new train label)
      ≡ option_map (λ (c : Call). c.stop) (call_named old train label)
  pub board : option_map (λ (c : Call). c.board) (call_named new train label)
      ≡ option_map (λ (c : Call). c.board) (call_named old train label)

-- each call that was there, and is there still, is kept
abbrev pub AreCallsKept : State → State → Type 0
AreCallsKept old new = (train label : ℕ) → has_call old train label ≡ true
    → has_call new train label ≡ true → IsCallKept old new train label

-- an accepted message was applied: the state is valid, there are times for its labels, the time
-- before the message is stored for each event that was live, and a time that no event has for each
-- that is live only now. An event of the old state and a live one of the new that have one name
-- have one key. Calls are kept. No more events can be live than before, and for each that is live
-- only now a spare call is used, one for two
pub record IsPrepared (nw : Network) (old new : State) (times : StoredTimes) : Type 0 where
  pub valid : IsValid nw new
  pub has_times : HasTimesFor new times
  pub stored : AreStored nw old new times
  pub names : (v w : Event) → Contains (events old) v → Contains (events new) w → w.live ≡ true
      → node_of w.key ≡ node_of v.key → w.key ≡ v.key
  pub calls : AreCallsKept old new
  pub fewer : most_live new ≤ most_live old
  pub made : length (live_only (events new) (events old)) + 2 * new.spare_calls
      ≤ 2 * old.spare_calls
