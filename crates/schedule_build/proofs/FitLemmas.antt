-- The runs of lawful tables can be loaded.
use Rattle.schedule_build.proofs.Words.{elements, ◌≡◌, ℕ, zero, suc, ◌+◌, ◌<◌, ◌≤◌, List, [], ◌∷◌, Bool, true, All, arith, All-nil, All-append, TripRow, Tables, rows_of, has_calls, day_runs}
use Rattle.schedule_build.proofs.Words.{runs_from, all_runs, IsFit, is_active, IsLawful}
use Rattle.feed_tables.proofs.TimeLemmas.{two-timed}
use Rattle.schedule_build.specs.Bases.{AreBases, base_at}
use Rattle.schedule_build.specs.Dates.{date_after}
use Rattle.schedule_build.proofs.BaseLemmas.{base-bound}
use Rattle.schedule_build.proofs.CallLemmas.{trip_calls-length, falls-not}

run-fit : (t : Tables) (day base trip route : ℕ) → IsLawful t → day < 31 → base ≤ 2808000 → has_calls t.calls trip ≡ true → IsFit t.calls (record { day = day; base = base; trip = trip; route = route })
run-fit t day base trip route h l small has =
    let rows = rows_of t.calls trip in
    let two = two-timed t trip h has in
    let many = trip_calls-length base rows in
    record { day = l; base = small; two_calls = omega (arith, two, many); in_order = falls-not base rows (h.tripwise trip).in_order }

day-fit : (t : Tables) (active : ℕ → Bool) (day base trip : ℕ) (rows : List TripRow) → IsLawful t → day < 31 → base ≤ 2808000 → All (IsFit t.calls) (day_runs active t.calls day base trip rows)
day-fit t active day base trip [] h l small = All-nil (IsFit t.calls)
day-fit t active day base trip (row ∷ rows) h l small = grind (arith, elements, run-fit t day base trip row.route h l small, day-fit t active day base (trip + 1) rows h l small)

days-fit : (t : Tables) (first : ℕ) (bases : List ℕ) (day days : ℕ) → IsLawful t → ((day : ℕ) → base_at bases day ≤ 2808000) → day + days ≤ 31 → All (IsFit t.calls) (runs_from t first bases day days)
days-fit t first bases day zero h small l = All-nil (IsFit t.calls)
days-fit t first bases day (suc days) h small l =
    All-append (IsFit t.calls) _ _ (day-fit t (λ service. is_active t service (date_after first day)) day (base_at bases day) 0 t.trips h (omega arith) (small day)) (days-fit t first bases (day + 1) days h small (omega arith))

-- the runs of up to 31 days
pub runs-fit : (t : Tables) (first days : ℕ) (bases : List ℕ) → IsLawful t → days ≤ 31 → AreBases days bases → All (IsFit t.calls) (all_runs t first days bases)
runs-fit t first days bases h l are = days-fit t first bases 0 days h (base-bound days bases are l) (omega arith)
