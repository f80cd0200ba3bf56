-- The way back from a ride, and what is kept of it while it is gone.
use Rattle.std.specs.Prelude.{◌≡◌, ℕ, ◌<◌, List, [], ◌∷◌, reverse, true, Option, Some, None}
use Rattle.mt_base.specs.declared.journeys.PlanRide.{PlanRide}
use Rattle.delay_model.specs.declared.network.Network.{Network}
use Rattle.delay_model.specs.declared.state.State.{State}
use Rattle.delay_model.specs.Journeys.{IsRide}
use Rattle.dep_order.specs.Ordered.{Ordered, onward_at}
use Rattle.train_nodes.specs.Calls.{has_call}
use Rattle.journey_laws.specs.Reached.{HasArrived}
use Rattle.conn_scan.specs.Reached.{Access, CanBoard, ride_at, ride_before}
use Rattle.conn_scan.specs.StopTimes.{time_at}
use Rattle.conn_scan.specs.Stretches.{IsHeld, IsStretch, departure_at, may_alight, may_board}
use Rattle.conn_scan.specs.declared.openings.Openings.{Openings}
use Rattle.conn_scan.specs.declared.stop_rides.Stretch.{Stretch}

-- the ride before one that can be boarded can be taken, and departs earlier
abbrev pub LeadsBackwards : Network → State → (ℕ → Option Access) → Type 0
LeadsBackwards nw st access = (r before : PlanRide) → CanBoard access r
    → ride_before access r ≡ Some before
    → IsRide nw st before × CanBoard access before × (before.board_time < r.board_time)

-- the rides before this one, the latest first, as far back as the one that is boarded straight from
-- the origin
abbrev pub IsWayBack : (ℕ → Option Access) → PlanRide → List PlanRide → Type 0
IsWayBack access r [] = ride_before access r ≡ None
IsWayBack access r (before ∷ others) = (ride_before access r ≡ Some before)
    × IsWayBack access before others

-- the rides that lead to this one, and this one: the way back from it, turned round
abbrev pub LeadsTo : (ℕ → Option Access) → PlanRide → List PlanRide → Type 0
LeadsTo access r rides = (way : List PlanRide) × IsWayBack access r way
    × (rides ≡ reverse (r ∷ way))

-- passengers can board at stop b by time t
abbrev pub HasOpened : Openings → ℕ → ℕ → Type 0
HasOpened ls b t = HasArrived (time_at ls.times) b t

-- passengers can be on departure n who boarded at departure b
pub record IsRidden (nw : Network) (o : Ordered) (ls : Openings) (b n : ℕ) : Type 0 where
  pub stretch : IsStretch o b n
  pub boards : may_board nw (departure_at o b) ≡ true
  pub opened : HasOpened ls (departure_at o b).stop (departure_at o b).time

-- they can take this ride
pub record IsTakeable (nw : Network) (o : Ordered) (ls : Openings) (r : Stretch) : Type 0 where
  pub ridden : IsRidden nw o ls r.first r.last
  pub alights : may_alight nw (onward_at o r.last) ≡ true

-- there are departures of these numbers, and a call of the last
pub record IsReadable (st : State) (o : Ordered) (r : Stretch) : Type 0 where
  pub first : IsHeld o r.first
  pub last : IsHeld o r.last
  pub call : has_call st (departure_at o r.last).key.train (departure_at o r.last).key.label ≡ true

-- so it is of each ride that stands at a stop where passengers can board
abbrev pub AreReadable : State → Ordered → Openings → Type 0
AreReadable st o ls = (b t : ℕ) (r : Stretch) → time_at ls.times b ≡ Some t → ride_at ls b ≡ Some r
    → IsReadable st o r
