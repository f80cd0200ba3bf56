-- Stretches of trains, from the number of one departure to that of a later one of the same train,
-- and the rides along them.
use Rattle.std.specs.Prelude.{◌≡◌, ℕ, zero, suc, Bool, true, nat_le, nat_lt, List, length, map}
use Rattle.std.specs.Prelude.{Some, filter, unwrap_or}
use Rattle.mt_base.specs.declared.journeys.PlanRide.{PlanRide}
use Rattle.delay_model.specs.declared.network.Network.{Network}
use Rattle.delay_model.specs.declared.state.State.{State}
use Rattle.delay_model.specs.Events.{calls_of}
use Rattle.train_nodes.specs.Calls.{label_after}
use Rattle.dep_order.specs.declared.departure.Departure.{Departure}
use Rattle.dep_order.specs.declared.departure.Onward.{Onward}
use Rattle.dep_order.specs.declared.departure.Leaving.{Leaving}
use Rattle.dep_order.specs.Departing.{held}
use Rattle.dep_order.specs.Ordered.{Ordered, leaving_of, onward_at}

-- stands for a departure where there is none
abbrev pub blank_departure : Departure
blank_departure =
    record { time = 0; key = record { time = 0; train = 0; label = 0; dep = true }; stop = 0 }

-- the departure with a number
abbrev pub departure_at : Ordered → ℕ → Departure
departure_at o n = unwrap_or (held o.entries n) blank_departure

-- a departure has the number
abbrev pub IsHeld : Ordered → ℕ → Type 0
IsHeld o n = (d : Departure) × (held o.entries n ≡ Some d)

-- passengers may board at this departure
abbrev pub may_board : Network → Departure → Bool
may_board nw d = nat_lt d.stop (length nw.stops)

-- passengers may alight where the train arrives next
abbrev pub may_alight : Network → Onward → Bool
may_alight nw w = nat_lt w.to (length nw.stops)

-- the train of departure b comes to departure e after so many departures more
abbrev pub IsAfter : Ordered → ℕ → ℕ → ℕ → Type 0
IsAfter o zero b e = IsHeld o b × (b ≡ e)
IsAfter o (suc k) b e = (m : ℕ) × IsAfter o k b m × ((onward_at o m).next ≡ e) × IsHeld o e

-- departure e is b, or one to which the train of b comes later
abbrev pub IsStretch : Ordered → ℕ → ℕ → Type 0
IsStretch o b e = (k : ℕ) × IsAfter o k b e

-- the ride from departure b to the arrival that comes next after departure e of the same train
abbrev pub ride_of : State → Ordered → ℕ → ℕ → PlanRide
ride_of st o b e =
    let from = departure_at o b in
    let last = departure_at o e in
    let onward = onward_at o e in
    record {
      train = from.key.train;
      board = from.key.label;
      board_stop = from.stop;
      board_time = from.time;
      alight = unwrap_or (label_after (calls_of st last.key.train) last.key.label) 0;
      alight_stop = onward.to;
      alight_time = onward.arrival;
    }

-- a ride along a stretch, from a departure where passengers may board to an arrival where they may
-- alight
pub record IsRideOf (nw : Network) (st : State) (o : Ordered) (r : PlanRide) : Type 0 where
  pub board : ℕ
  pub last : ℕ
  pub stretch : IsStretch o board last
  pub boards : may_board nw (departure_at o board) ≡ true
  pub alights : may_alight nw (onward_at o last) ≡ true
  pub is : ride_of st o board last ≡ r

-- the departures from a time on, as a scan comes to them
abbrev pub leaving_from : Ordered → ℕ → List Leaving
leaving_from o time =
    map (leaving_of o) (filter (λ (d : Departure). nat_le time d.time) o.departures)
