-- The trips that run on each loaded service day.
use Rattle.std.specs.Prelude.{ℕ, zero, suc, ◌+◌, ◌<◌, List, [], ◌∷◌, ◌++◌, Bool, false, ◌&&◌, if◌then◌else◌, slice_index_or}
use Rattle.mt_base.specs.declared.tables.CallRow.{CallRow}
use Rattle.mt_base.specs.declared.tables.TripRow.{TripRow}
use Rattle.mt_base.specs.declared.tables.Tables.{Tables}
use Rattle.feed_tables.specs.Calls.{has_calls}
use Rattle.schedule_build.specs.Bases.{base_at}
use Rattle.schedule_build.specs.declared.runs.Run.{Run}
use Rattle.schedule_build.specs.Dates.{date_after}
use Rattle.schedule_build.specs.Services.{is_active}

-- the service of a trip is one of so many
abbrev pub HasService : ℕ → TripRow → Type 0
HasService services r = r.service < services

-- the mark of a service, of which there is none past the end
abbrev pub is_set : List Bool → ℕ → Bool
is_set marks service = slice_index_or marks service false

-- the trips, numbered from `trip` on, whose services are active on a day with this base and which
-- have calls, in the order of `trips.txt`
abbrev pub day_runs : (ℕ → Bool) → List CallRow → ℕ → ℕ → ℕ → List TripRow → List Run
day_runs active calls day base trip [] = []
day_runs active calls day base trip (row ∷ rows) =
    if active row.service && has_calls calls trip then record {
      day = day;
      base = base;
      trip = trip;
      route = row.route;
    } ∷ day_runs active calls day base (trip + 1) rows
    else day_runs active calls day base (trip + 1) rows

-- the trips that run on a service day with this base, of which day 0 is the date `first`
abbrev pub runs_on : Tables → ℕ → ℕ → ℕ → List Run
runs_on t first day base = day_runs (λ service. is_active t service (date_after first day)) t.calls
    day base 0 t.trips

-- the runs of so many service days from `day` on, in the order of the days
abbrev pub runs_from : Tables → ℕ → List ℕ → ℕ → ℕ → List Run
runs_from t first bases day zero = []
runs_from t first bases day (suc days) =
    runs_on t first day (base_at bases day) ++ runs_from t first bases (day + 1) days

-- the runs of the loaded days, which have these bases: the trains are numbered in this order
abbrev pub all_runs : Tables → ℕ → ℕ → List ℕ → List Run
all_runs t first days bases = runs_from t first bases 0 days
