-- The rides that begin with a departure, and all rides of a state.
use Rattle.std.specs.Prelude.{◌≡◌, ◌⊎◌, ℕ, zero, suc, List, [], ◌∷◌, ◌++◌, true, ◌&&◌, if◌then◌else◌, find, length, slice_get, Contains}
use Rattle.std.specs.Option.{option_map_or}
use Rattle.mt_base.specs.declared.keys.Key.{Key}
use Rattle.mt_base.specs.declared.keys.Node.{Node}
use Rattle.mt_base.specs.declared.journeys.PlanRide.{PlanRide}
use Rattle.mt_base.specs.Order.{node_of}
use Rattle.delay_model.specs.declared.network.Network.{Network}
use Rattle.delay_model.specs.declared.state.Call.{Call}
use Rattle.delay_model.specs.declared.state.Train.{Train}
use Rattle.delay_model.specs.declared.state.State.{State}
use Rattle.delay_model.specs.Cuts.{after}
use Rattle.delay_model.specs.Effect.{is_call}
use Rattle.delay_model.specs.Events.{arrival_of, departure_of, of_train}
use Rattle.delay_model.specs.Journeys.{IsRide}
use Rattle.delay_model.specs.Timing.{event_time}

-- the departure with which a ride begins
abbrev pub departure_of_ride : PlanRide → Node
departure_of_ride r = record { train = r.train; label = r.board; dep = true }

-- a ride that begins with this departure
pub record BeginsWith (nw : Network) (st : State) (n : Node) (r : PlanRide) : Type 0 where
  pub ride : IsRide nw st r
  pub departure : departure_of_ride r ≡ n

-- the ride on a train, of this number and route, from call c to call d
abbrev pub ride_between : Network → State → ℕ → ℕ → Call → Call → PlanRide
ride_between nw st train route c d =
    record {
      train = train;
      board = c.label;
      board_stop = c.stop;
      board_time = event_time nw st (departure_of train route c).key;
      alight = d.label;
      alight_stop = d.stop;
      alight_time = event_time nw st (arrival_of train route d).key;
    }

-- the rides from call c to those of the calls after it where one may alight, up to the first that
-- the train does not reach
abbrev pub rides_along : Network → State → ℕ → ℕ → Call → List Call → List PlanRide
rides_along nw st train route c [] = []
rides_along nw st train route c (d ∷ ds) =
    if d.arrival.live then
    (if d.alight then ride_between nw st train route c d ∷ [] else [])
    ++ (if d.departure.live then rides_along nw st train route c ds else [])
    else []

-- the rides from the first of these calls that has the label
abbrev pub rides_at : Network → State → ℕ → ℕ → ℕ → List Call → List PlanRide
rides_at nw st train route label cs =
    option_map_or (λ (c : Call). if c.departure.live && c.board then rides_along nw st train route c
    (after (is_call label) cs) else []) (find (is_call label) cs) []

-- the rides that begin with the departure of this name
unfoldable pub rides_from : Network → State → Node → List PlanRide
rides_from nw st n = of_train st n.train (λ (t : Train).
    rides_at nw st n.train t.route n.label t.calls)

-- the ride begins with one of these departures, or is one of these
abbrev pub IsSeen : List Key → List PlanRide → PlanRide → Type 0
IsSeen departures rides r = ((k : Key) × Contains departures k × (node_of k ≡ departure_of_ride r))
    ⊎ Contains rides r

-- the rides from the calls of a train whose labels are below a number
abbrev pub rides_below : Network → State → ℕ → ℕ → List PlanRide
rides_below nw st train zero = []
rides_below nw st train (suc label) = rides_from nw st (record {
  train = train;
  label = label;
  dep = true;
}) ++ rides_below nw st train label

-- the rides of the trains below a number
abbrev pub rides_of_trains : Network → State → ℕ → List PlanRide
rides_of_trains nw st zero = []
rides_of_trains nw st (suc train) =
    rides_below nw st train
    (option_map_or (λ (t : Train). t.next_label) (slice_get st.trains train) 0)
    ++ rides_of_trains nw st train

-- all rides of a state
abbrev pub all_rides : Network → State → List PlanRide
all_rides nw st = rides_of_trains nw st (length st.trains)
