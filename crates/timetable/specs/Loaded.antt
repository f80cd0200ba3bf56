-- The departures of a state as they are at first.
use Rattle.std.specs.Prelude.{◌≡◌, ◌*◌, length}
use Rattle.delay_model.specs.declared.network.Network.{Network}
use Rattle.delay_model.specs.declared.state.State.{State}
use Rattle.dep_order.specs.Ordered.{Ordered, spare}
use Rattle.timetable.specs.Departures.{departure_room, live_departures}
use Rattle.timetable.specs.Settled.{HasPlacesFor}

-- the live departures are there, with places for the numbers of all, and there is room for two more
-- at each call that can still be made
pub record AreLoaded (nw : Network) (st : State) (order : Ordered) : Type 0 where
  pub departures : order.departures ≡ live_departures nw st
  pub places : HasPlacesFor st order
  pub numbers : length order.entries ≡ departure_room st
  pub room : spare order ≡ 2 * st.spare_calls
