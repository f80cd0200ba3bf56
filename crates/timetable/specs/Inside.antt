-- How a timetable is seen, and what holds of it.
use Rattle.std.specs.Prelude.{◌≡◌, ◌*◌, ◌≤◌, [], length, vec_capacity}
use Rattle.dep_order.specs.Ordered.{spare}
use Rattle.timetable.specs.declared.timetable.Timetable.TheInside.{Inside}
use Rattle.timetable.specs.Onward.{IsDepartureOrder}
use Rattle.timetable.specs.TimetableState.{TimetableState}
use Rattle.timetable.specs.Settled.{HasPlacesFor, IsSettled, IsRoomy, most_live}

abbrev pub seen : Inside → TimetableState
seen a = record {
  network = a.graph.network;
  state = a.graph.state;
  numbers = length a.departures.entries;
  count = a.count;
  changed = a.changed.items;
}

-- the times of the live events are stored, the live departures are listed with what their trains do
-- next, no event is marked, and there is room for all events that can be live
pub record IsTimed (a : Inside) : Type 0 where
  pub settled : IsSettled a.graph.network a.graph.state a.times
  pub order : IsDepartureOrder a.graph.network a.graph.state a.departures
  pub places : HasPlacesFor a.graph.state a.departures
  pub departures_room : 2 * a.graph.state.spare_calls ≤ spare a.departures
  pub unmarked : a.marks.keys ≡ []
  pub roomy : IsRoomy (most_live a.graph.state) (vec_capacity a.changed) a.marks.room
      (vec_capacity a.time_changes)
