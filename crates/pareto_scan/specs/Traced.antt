-- The best plans, by what a scan has found: the way back from each best arrival, one ride less at
-- each step.
use Rattle.std.specs.Prelude.{◌≡◌, ℕ, zero, suc, List, [], ◌∷◌, ◌++◌, reverse, if◌then◌else◌, Option, Some, None, option_to_list}
use Rattle.std.specs.Option.{option_and_then, option_map_or}
use Rattle.mt_base.specs.declared.journeys.Plan.{Plan}
use Rattle.mt_base.specs.declared.journeys.PlanRide.{PlanRide}
use Rattle.delay_model.specs.declared.state.State.{State}
use Rattle.dep_order.specs.Ordered.{Ordered}
use Rattle.conn_scan.specs.Reached.{Access, access_of, ride_along, ride_before}
use Rattle.conn_scan.specs.Scanned.{is_before}
use Rattle.conn_scan.specs.Ways.{IsReadable}
use Rattle.conn_scan.specs.declared.known.Ending.{Ending}
use Rattle.conn_scan.specs.declared.stop_rides.Stretch.{Stretch}
use Rattle.pareto_scan.specs.Levels.{level_at}
use Rattle.pareto_scan.specs.declared.level.Level.{Level}

-- how a passenger gets to the stops with at most so many rides, by what is known
abbrev pub access_at : State → Ordered → List Level → ℕ → ℕ → Option Access
access_at st o levels rides = access_of st o (level_at levels rides).openings

-- the rides before this one, the latest first, where it is boarded after at most so many rides
abbrev pub way_back : State → Ordered → List Level → ℕ → PlanRide → List PlanRide
way_back st o levels zero r = []
way_back st o levels (suc rides) r =
    option_map_or (λ (before : PlanRide). before ∷ way_back st o levels rides before)
    (ride_before (access_at st o levels (suc rides)) r) []

-- these rides in their order, and this one
abbrev pub traced : State → Ordered → List Level → ℕ → Stretch → List PlanRide
traced st o levels rides last =
    let r = ride_along st o last in
    reverse (r ∷ way_back st o levels rides r)

-- the plan of a best arrival by one ride more than so many
abbrev pub plan_to : State → Ordered → List Level → ℕ → Ending → Plan
plan_to st o levels rides e =
    record { arrives = e.time; rides = traced st o levels rides e.ride }

-- the same, if it is earlier than the best arrival with at most so many
abbrev pub plan_with : State → Ordered → List Level → ℕ → Option Plan
plan_with st o levels rides =
    option_and_then (λ (e : Ending). if is_before e.time (level_at levels rides).best
    then Some (plan_to st o levels rides e) else None) (level_at levels (suc rides)).best

-- the plans with 1, 2, .. and at most so many rides
abbrev pub plans_within : State → Ordered → List Level → ℕ → List Plan
plans_within st o levels zero = []
plans_within st o levels (suc rides) =
    plans_within st o levels rides ++ option_to_list (plan_with st o levels rides)

-- the ride of each best arrival can be looked up
abbrev pub AreEndsReadable : State → Ordered → List Level → Type 0
AreEndsReadable st o levels = (rides : ℕ) (e : Ending) → (level_at levels rides).best ≡ Some e
    → IsReadable st o e.ride
