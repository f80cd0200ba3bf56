-- The departure and the arrival of a ride, along the calls of its train.
use Rattle.std.specs.Prelude.{ℕ, List, [], ◌∷◌, ◌&&◌, nat_eq, if◌then◌else◌, Option, Some, None}
use Rattle.std.specs.Option.{option_and_then}
use Rattle.mt_base.specs.declared.journeys.PlanRide.{PlanRide}
use Rattle.delay_model.specs.declared.network.Network.{Network}
use Rattle.delay_model.specs.declared.state.Call.{Call}
use Rattle.delay_model.specs.declared.state.State.{State}
use Rattle.delay_model.specs.Cuts.{after}
use Rattle.delay_model.specs.Effect.{is_call}
use Rattle.delay_model.specs.Events.{arrival_of, calls_of, departure_of}
use Rattle.delay_model.specs.Timing.{event_time}
use Rattle.train_nodes.specs.Calls.{call_named}
use Rattle.journey_cert.specs.declared.ride.Arrival.{Arrival}
use Rattle.journey_cert.specs.declared.ride.Boarding.{Boarding}

-- the departure of a train at a call
abbrev pub boarding_of : Network → State → ℕ → ℕ → Call → Boarding
boarding_of nw st train label c =
    record {
      train = train;
      label = label;
      stop = c.stop;
      time = event_time nw st (departure_of train 0 c).key;
    }

-- the departure at the call with a label, if it is live and passengers may board there
abbrev pub boarding_at : Network → State → ℕ → ℕ → Option Boarding
boarding_at nw st train label =
    option_and_then (λ (c : Call). if c.departure.live && c.board then Some
    (boarding_of nw st train label c) else None) (call_named st train label)

-- the arrival of a train at a call
abbrev pub arrival_at : Network → State → ℕ → Call → Arrival
arrival_at nw st train c =
    record {
      label = c.label;
      stop = c.stop;
      time = event_time nw st (arrival_of train 0 c).key;
      alights = c.alight;
      goes_on = c.departure.live;
    }

-- the arrival at the first of these calls, if it is live
abbrev pub first_arrival : Network → State → ℕ → List Call → Option Arrival
first_arrival nw st train [] = None
first_arrival nw st train (c ∷ cs) = if c.arrival.live then Some (arrival_at nw st train c)
    else None

-- the calls of a train after the one with a label
abbrev pub calls_after : State → ℕ → ℕ → List Call
calls_after st train label = after (is_call label) (calls_of st train)

-- the arrival at the first of these calls that has a label and where passengers may alight, if the
-- train runs that far
abbrev pub arrival_by : Network → State → ℕ → ℕ → List Call → Option Arrival
arrival_by nw st train label [] = None
arrival_by nw st train label (c ∷ cs) =
    if c.arrival.live then
    (if c.alight && nat_eq c.label label then Some (arrival_at nw st train c)
    else if c.departure.live then arrival_by nw st train label cs else None)
    else None

-- the ride from a departure to an arrival of the same train
abbrev pub ride_to : Boarding → Arrival → PlanRide
ride_to b a =
    record {
      train = b.train;
      board = b.label;
      board_stop = b.stop;
      board_time = b.time;
      alight = a.label;
      alight_stop = a.stop;
      alight_time = a.time;
    }
