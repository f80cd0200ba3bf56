-- What a scan of the departures in the order of their times keeps, so that at its end it is
-- finished.
use Rattle.std.specs.Prelude.{◌≡◌, ◌⊎◌, ℕ, ◌≤◌, true, Option, Some}
use Rattle.mt_base.specs.declared.journeys.PlanRide.{PlanRide}
use Rattle.mt_base.specs.declared.journeys.Query.{Query}
use Rattle.delay_model.specs.declared.network.Network.{Network}
use Rattle.delay_model.specs.declared.state.State.{State}
use Rattle.delay_model.specs.Journeys.{IsRide, is_one_station}
use Rattle.journey_laws.specs.Reached.{HasArrived, IsOpen}

-- the best arrival is no later than this time
abbrev pub IsBestBy : Option ℕ → ℕ → Type 0
IsBestBy best t = (at : ℕ) × (best ≡ Some at) × (at ≤ t)

-- a scan that has looked at the rides that are `Seen`: of those that can be boarded no arrival is
-- missing. The best arrival is no later than any arrival in the destination's station, and nothing
-- is reached before the query's time
pub record IsScanOf (nw : Network) (st : State) (q : Query) (best : Option ℕ)
    (reached : ℕ → Option ℕ) (Seen : PlanRide → Type 0) : Type 0 where
  pub arrivals : (r : PlanRide) → IsRide nw st r → Seen r → IsOpen nw q reached r
      → HasArrived reached r.alight_stop r.alight_time
  pub there : (b t : ℕ) → reached b ≡ Some t → is_one_station nw b q.to_stop ≡ true
      → IsBestBy best t
  pub since : (b t : ℕ) → reached b ≡ Some t → q.time ≤ t

-- what an arrival at stop b at time t makes of the times by which stops are reached: none is later
-- than before, this stop is reached by then, and nothing else is new
pub record IsArrivalTaken (b t : ℕ) (old new : ℕ → Option ℕ) : Type 0 where
  pub no_later : (c s : ℕ) → HasArrived old c s → HasArrived new c s
  pub there : HasArrived new b t
  pub others : (c s : ℕ) → new c ≡ Some s → (old c ≡ Some s) ⊎ ((c ≡ b) × (s ≡ t))

-- what a ride makes of them
abbrev pub IsRideTaken : PlanRide → (ℕ → Option ℕ) → (ℕ → Option ℕ) → Type 0
IsRideTaken r old new = IsArrivalTaken r.alight_stop r.alight_time old new

-- what the arrival makes of the best arrival: no later than before, and by that time where the stop
-- is in the destination's station
pub record IsBestTaken (nw : Network) (q : Query) (b t : ℕ) (old new : Option ℕ) : Type 0 where
  pub no_later : (s : ℕ) → IsBestBy old s → IsBestBy new s
  pub there : is_one_station nw b q.to_stop ≡ true → IsBestBy new t
