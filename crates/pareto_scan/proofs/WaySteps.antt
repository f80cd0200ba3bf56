-- The way back, step by step.
use Rattle.conn_scan.proofs.Words.{◌≡◌, ℕ, zero, suc, ◌-◌, ◌<◌, List, [], ◌∷◌, Some, None, refl, arith, PlanRide, State, Ordered, ride_before}
use Rattle.pareto_scan.specs.Traced.{access_at, way_back}
use Rattle.pareto_scan.specs.declared.level.Level.{Level}

module _ (st : State) (o : Ordered) (levels : List Level) where
  pub way-step : (rides : ℕ) (r before : PlanRide) → 0 < rides
      → ride_before (access_at st o levels rides) r ≡ Some before → way_back st o levels rides r ≡ before ∷ way_back st o levels (rides - 1) before
  way-step zero r before some at = absurd (omega arith)
  way-step (suc k) r before some at = let less : suc k - 1 ≡ k = omega arith in rw (at, less) refl

  pub way-stops : (rides : ℕ) (r : PlanRide) → ride_before (access_at st o levels rides) r ≡ None → way_back st o levels rides r ≡ []
  way-stops zero r at = refl
  way-stops (suc k) r at = rw at refl

  pub way-none : (rides : ℕ) (r : PlanRide) → rides ≡ 0 → way_back st o levels rides r ≡ []
  way-none zero r none = refl
  way-none (suc k) r none = absurd (omega arith)
