-- What is known of the departures once a message was applied, before they are moved.
use Rattle.std.specs.Prelude.{◌≡◌, ℕ, ◌*◌, ◌≤◌, List, Option, filter}
use Rattle.mt_base.specs.declared.keys.Node.{Node}
use Rattle.delay_model.specs.declared.messages.Message.{Message}
use Rattle.delay_model.specs.declared.network.Network.{Network}
use Rattle.delay_model.specs.declared.state.State.{State}
use Rattle.delay_model.specs.Events.{events}
use Rattle.delay_model.specs.Touched.{live_only, names_of}
use Rattle.train_nodes.specs.Times.{StoredTimes}
use Rattle.propagate.specs.declared.time_changes.TimeChange.{TimeChange}
use Rattle.dep_order.specs.Ordered.{Ordered, spare}
use Rattle.timetable.specs.Carried.{IsNoted}
use Rattle.timetable.specs.Marking.{IsStateAfter}
use Rattle.timetable.specs.Moved.{is_of_none, time_changes_of}
use Rattle.timetable.specs.Numbers.{AreLeft}
use Rattle.timetable.specs.Onward.{IsDepartureOrder}
use Rattle.timetable.specs.Settled.{HasPlacesFor}
use Rattle.timetable.specs.Shapes.{IsPrepared}

-- the names of the events that are live in the old state, and no longer in the new one
abbrev pub gone_between : State → State → List Node
gone_between old new = names_of (live_only (events old) (events new))

-- a message was applied to a state with its departures; those of events that it took away are out,
-- and it is known which events get other times, and what was noted before
pub record IsApplied (nw : Network) (new : State) (m : Message) (noted : Option ℕ)
    (changes : List TimeChange) (now : Ordered) : Type 0 where
  -- the state and its departures before the message, and the times that were stored afterwards
  pub old : State
  pub before : Ordered
  pub times : StoredTimes
  pub step : IsStateAfter nw old new m
  pub prepared : IsPrepared nw old new times
  pub order : IsDepartureOrder nw old before
  pub room : 2 * old.spare_calls ≤ spare before
  -- the departures that are left, with places for the numbers of all
  pub departures : now.departures ≡ filter (is_of_none (gone_between old new)) before.departures
  pub numbers : AreLeft (gone_between old new) before now
  pub places : HasPlacesFor new now
  -- what was noted, and which events get other times
  pub is_noted : IsNoted nw old m noted
  pub changes_are : changes ≡ time_changes_of nw new times
