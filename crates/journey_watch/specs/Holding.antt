-- Which rides of a journey can be taken, ride by ride, whatever has become of the others.
use Rattle.std.specs.Prelude.{◌≡◌, ℕ, suc, ◌-◌, List, ◌∷◌, ◌++◌, true, Some, All, MatchOption, length, slice_get}
use Rattle.mt_base.specs.declared.certificates.CertRide.{CertRide}
use Rattle.mt_base.specs.declared.journeys.PlanRide.{PlanRide}
use Rattle.mt_base.specs.declared.journeys.Query.{Query}
use Rattle.delay_model.specs.declared.network.Network.{Network}
use Rattle.delay_model.specs.declared.state.Call.{Call}
use Rattle.delay_model.specs.declared.state.State.{State}
use Rattle.delay_model.specs.Events.{calls_of}
use Rattle.delay_model.specs.Journeys.{IsInTime, MayBegin, StopsAndGoesOn}
use Rattle.journey_laws.specs.Rides.{ride_between}

-- the ride of a name as it is now: its train makes the boarding call, and behind it the alighting
-- one; it departs from the one, stops and goes on at each call between them, and arrives at the
-- other
pub record RunsNow (nw : Network) (st : State) (name : CertRide) (r : PlanRide) : Type 0 where
  pub calls_before : List Call
  pub boarded : Call
  pub calls_between : List Call
  pub alighted : Call
  pub calls_after : List Call
  pub are_calls : calls_of st name.train ≡ calls_before ++ boarded
      ∷ (calls_between ++ alighted ∷ calls_after)
  pub board_label : boarded.label ≡ name.board
  pub alight_label : alighted.label ≡ name.alight
  pub departs : boarded.departure.live ≡ true
  pub passes : All StopsAndGoesOn calls_between
  pub arrives : alighted.arrival.live ≡ true
  pub ride_is : r ≡ ride_between nw st name.train 0 boarded alighted

-- ride i of a query's journey of these rides, from 0, can be taken: it runs, and its departure may
-- be the first of the journey, or follow the arrival of the ride before, as that one runs
pub record Holds (nw : Network) (st : State) (q : Query) (rides : List CertRide) (i : ℕ)
    : Type 0 where
  pub name : CertRide
  pub is : slice_get rides i ≡ Some name
  pub ride : PlanRide
  pub runs : RunsNow nw st name ride
  pub first : i ≡ 0 → MayBegin nw q ride
  pub follows : (j : ℕ) (before : CertRide) (r : PlanRide) → i ≡ suc j
      → slice_get rides j ≡ Some before → RunsNow nw st before r
      → IsInTime nw r.alight_stop r.alight_time ride.board_stop ride.board_time

-- the last of these rides arrives then; without a ride it is the query's time
abbrev pub IsLastArrival : Network → State → Query → List CertRide → ℕ → Type 0
IsLastArrival nw st q rides at =
    MatchOption (slice_get rides (length rides - 1)) (q.time ≡ at)
    (λ name. (r : PlanRide) × RunsNow nw st name r × (r.alight_time ≡ at))
