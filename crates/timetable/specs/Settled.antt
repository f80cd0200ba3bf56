-- A timetable's state with the time of each live event, and the room that is kept for more.
use Rattle.std.specs.Prelude.{◌≡◌, ℕ, ◌+◌, ◌*◌, ◌≤◌, All, length}
use Rattle.delay_model.specs.declared.network.Network.{Network}
use Rattle.delay_model.specs.declared.state.State.{State}
use Rattle.delay_model.specs.Events.{events}
use Rattle.delay_model.specs.Valid.{IsValid}
use Rattle.train_nodes.specs.Times.{StoredTimes}
pub use Rattle.propagate.specs.LiveKeys.{HasItsTime, live_keys}
pub use Rattle.propagate.specs.TimesFor.{HasTimesFor, next_labels}
use Rattle.train_nodes.specs.Times.{AreSized}
use Rattle.dep_order.specs.Ordered.{Ordered}

-- the state is valid, for each live event its time is stored, and for each label that a train has
-- used there are times
pub record IsSettled (nw : Network) (st : State) (stored : StoredTimes) : Type 0 where
  pub valid : IsValid nw st
  pub times : All (HasItsTime nw st stored) (live_keys (events st))
  pub has_times : HasTimesFor st stored

-- for each label that a train has used there is a place for the number of a departure, and there is
-- room for those of as many more trains and calls as are spare
pub record HasPlacesFor (st : State) (order : Ordered) : Type 0 where
  pub labels : order.labels ≡ next_labels st
  pub spare_trains : order.spare_trains ≡ st.spare_trains
  pub spare_calls : order.spare_calls ≡ st.spare_calls

-- there are times and places for numbers of the same labels, with the same room for more
pub record AreOfSameLabels (stored : StoredTimes) (order : Ordered) : Type 0 where
  pub sized : AreSized order.labels stored
  pub spare_trains : stored.spare_trains ≡ order.spare_trains
  pub spare_calls : stored.spare_calls ≡ order.spare_calls

-- how many events can be live, if each spare call is used
abbrev pub most_live : State → ℕ
most_live st = length (live_keys (events st)) + 2 * st.spare_calls

-- so many events can be marked, and fit into lists of these capacities: into the first one twice,
-- those that a message takes away and those that it leaves
pub record IsRoomy (most changed_room marks_room time_changes_room : ℕ) : Type 0 where
  pub changed : 2 * most ≤ changed_room
  pub marks : most ≤ marks_room
  pub time_changes : most ≤ time_changes_room
