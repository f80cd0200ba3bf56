-- By when, and how, a passenger gets to the stops. `access` says it for each stop of which a scan
-- knows.
use Rattle.std.specs.Prelude.{◌≡◌, ℕ, ◌≤◌, Option, Some, None, get_or}
use Rattle.std.specs.Option.{MatchOption, option_and_then, option_map}
use Rattle.mt_base.specs.declared.journeys.Query.{Query}
use Rattle.mt_base.specs.declared.journeys.PlanRide.{PlanRide}
use Rattle.delay_model.specs.declared.network.Network.{Network}
use Rattle.delay_model.specs.declared.state.State.{State}
use Rattle.delay_model.specs.Journeys.{IsRide, IsInTime}
use Rattle.dep_order.specs.Ordered.{Ordered}
use Rattle.journey_laws.specs.Reached.{IsFromOrigin}
use Rattle.conn_scan.specs.StopTimes.{time_at}
use Rattle.conn_scan.specs.Stretches.{ride_of}
use Rattle.conn_scan.specs.declared.openings.Openings.{Openings}
use Rattle.conn_scan.specs.declared.stop_rides.Stretch.{Stretch}

-- how a passenger gets to a stop: from what time on one can board there, and the ride behind which
-- that is; none if it is straight from the origin
pub record Access : Type 0 where
  pub time : ℕ
  pub ride : Option PlanRide

-- the ride of two numbers
abbrev pub ride_along : State → Ordered → Stretch → PlanRide
ride_along st o r = ride_of st o r.first r.last

-- the ride that stands at stop b
abbrev pub ride_at : Openings → ℕ → Option Stretch
ride_at ls b = get_or ls.rides b None

-- how a passenger gets to stop b, by what is known
abbrev pub access_of : State → Ordered → Openings → ℕ → Option Access
access_of st o ls b =
    option_map (λ t. record { time = t; ride = option_map (ride_along st o) (ride_at ls b) })
    (time_at ls.times b)

-- a passenger can board at stop b at time t
abbrev pub IsReached : (ℕ → Option Access) → ℕ → ℕ → Type 0
IsReached access b t = (a : Access) × (access b ≡ Some a) × (a.time ≤ t)

-- a passenger can be at the ride's first stop when it departs
abbrev pub CanBoard : (ℕ → Option Access) → PlanRide → Type 0
CanBoard access r = IsReached access r.board_stop r.board_time

-- behind this ride a passenger can board at place b at time t: the change from where it ends is
-- done by then
abbrev pub IsBehind : Network → PlanRide → ℕ → ℕ → Type 0
IsBehind nw r b t = IsInTime nw r.alight_stop r.alight_time b t

-- a ride that the passenger can take
abbrev pub IsPossible : Network → State → (ℕ → Option Access) → PlanRide → Type 0
IsPossible nw st access r = IsRide nw st r × CanBoard access r

-- each access is straight from the origin, or behind a ride that the passenger can take
abbrev pub AreExplained : Network → State → Query → (ℕ → Option Access) → Type 0
AreExplained nw st q access =
    (b : ℕ) (a : Access) → access b ≡ Some a →
    MatchOption a.ride (IsFromOrigin nw q b a.time) (λ r. IsPossible nw st access r
    × IsBehind nw r b a.time)

-- the ride behind which the passenger boards this one; none if he comes straight from the origin
abbrev pub ride_before : (ℕ → Option Access) → PlanRide → Option PlanRide
ride_before access r = option_and_then (λ (a : Access). a.ride) (access r.board_stop)
