-- The runs of a day by the marks of services and the rows by trip, and those of the days that are left.
use Rattle.schedule_build.proofs.Words.{◌≡◌, ℕ, suc, ◌+◌, ◌-◌, ◌<◌, List, [], ◌∷◌, ◌++◌, Bool, All, refl, arith, CallRow, TripRow, Tables, rows_of, HasService, day_runs, runs_on, runs_from}
use Rattle.schedule_build.specs.Bases.{base_at}

-- two ways to say which services are active, and two lists with the same rows of each trip, give the same runs
pub day_runs-same : (n : ℕ) (active active' : ℕ → Bool) (calls calls' : List CallRow) (day base trip : ℕ) (rows : List TripRow) → ((s : ℕ) → s < n → active s ≡ active' s)
    → ((k : ℕ) → rows_of calls k ≡ rows_of calls' k) → All (HasService n) rows → day_runs active calls day base trip rows ≡ day_runs active' calls' day base trip rows
day_runs-same n active active' calls calls' day base trip [] a same h = refl
day_runs-same n active active' calls calls' day base trip (row ∷ rows) a same h =
    rw (a row.service (h 0 row (omega arith)), same trip, day_runs-same n active active' calls calls' day base (trip + 1) rows a same (λ k d l. h (suc k) d (omega arith))) refl

-- the runs from a day on are those of the day and those of the days after it
pub runs-step : (t : Tables) (first : ℕ) (bases : List ℕ) (day days : ℕ) → day < days → runs_from t first bases day (days - day) ≡ runs_on t first day (base_at bases day) ++ runs_from t first bases (day + 1) (days - (day + 1))
runs-step t first bases day days l = let e : days - day ≡ suc (days - (day + 1)) = omega arith in rw e refl
