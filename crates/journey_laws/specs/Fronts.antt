-- The best plans by arrival and number of rides, and a search for them in rounds, one for each
-- ride.
use Rattle.std.specs.Prelude.{◌≡◌, ◌⊎◌, ℕ, zero, suc, ◌≤◌, ◌<◌, List, [], ◌∷◌, ◌++◌, if◌then◌else◌, Option, Some, None, length, All, AllPairs, Contains}
use Rattle.mt_base.specs.declared.journeys.PlanRide.{PlanRide}
use Rattle.mt_base.specs.declared.journeys.Query.{Query}
use Rattle.delay_model.specs.declared.network.Network.{Network}
use Rattle.delay_model.specs.declared.state.State.{State}
use Rattle.delay_model.specs.Journeys.{IsJourney, is_one_station}
use Rattle.journey_laws.specs.Reached.{HasArrivals, IsEarly, IsElsewhere}
use Rattle.mt_base.specs.declared.journeys.Plan.{Plan}

-- a journey of the query with at most m rides, which arrives when the plan says
abbrev pub IsPlan : Network → State → Query → ℕ → Plan → Type 0
IsPlan nw st q m p = IsJourney nw st q p.rides p.arrives × (length p.rides ≤ m)

-- plan s has more rides than plan p, and arrives earlier
abbrev pub IsEarlierByMore : Plan → Plan → Type 0
IsEarlierByMore p s = (length p.rides < length s.rides) × (s.arrives < p.arrives)

-- one of these plans arrives by this time with at most so many rides
abbrev pub HasPlanWithin : List Plan → ℕ → ℕ → Type 0
HasPlanWithin plans rides arrives = (p : Plan) × Contains plans p × (length p.rides ≤ rides)
    × (p.arrives ≤ arrives)

-- the best plans with at most m rides: journeys, by rising number of rides and falling arrival, and
-- for each journey with at most m rides a plan that has no more rides and arrives no later
pub record IsFront (nw : Network) (st : State) (q : Query) (m : ℕ) (plans : List Plan)
    : Type 0 where
  pub journeys : All (IsPlan nw st q m) plans
  pub order : AllPairs IsEarlierByMore plans
  pub complete : (rides : List PlanRide) (at : ℕ) → IsJourney nw st q rides at → length rides ≤ m
      → HasPlanWithin plans (length rides) at

-- the best arrival of plans of which each arrives earlier than the ones before: that of the last
abbrev pub best_of : List Plan → Option ℕ
best_of [] = None
best_of (p ∷ []) = Some p.arrives
best_of (p ∷ s ∷ ps) = best_of (s ∷ ps)

-- what a search knows after some rounds: the best plans, and by when a passenger has arrived where
pub record Round : Type 0 where
  pub plans : List Plan
  pub reached : ℕ → Option ℕ

-- the journey without a ride, where origin and destination are of one station
abbrev pub plans_at_once : Network → Query → List Plan
plans_at_once nw q = if is_one_station nw q.from_stop q.to_stop
    then record { arrives = q.time; rides = [] } ∷ [] else []

-- before the first round nothing but that is known
pub record IsBegin (nw : Network) (q : Query) (r : Round) : Type 0 where
  pub plans : r.plans ≡ plans_at_once nw q
  pub reached : (b : ℕ) → r.reached b ≡ None

-- the round that comes to k rides: no arrival by one ride more is missing before the best arrival,
-- and if that is a new one, a plan with at most k rides is appended
pub record IsNextRound (nw : Network) (st : State) (q : Query) (k : ℕ) (old new : Round)
    : Type 0 where
  pub plans : (new.plans ≡ old.plans) ⊎ ((p : Plan) × (new.plans ≡ old.plans ++ p ∷ [])
      × IsPlan nw st q k p × IsEarly (best_of old.plans) p.arrives)
  pub arrivals : HasArrivals nw st q (best_of new.plans) old.reached new.reached
  pub elsewhere : IsElsewhere nw q (best_of new.plans) new.reached

-- what is known after k rounds
abbrev pub IsAfterRounds : Network → State → Query → ℕ → Round → Type 0
IsAfterRounds nw st q zero r = IsBegin nw q r
IsAfterRounds nw st q (suc k) r = (before : Round) × IsAfterRounds nw st q k before
    × IsNextRound nw st q (suc k) before r
