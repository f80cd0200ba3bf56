-- Bases of service days are small.
use Rattle.schedule_build.proofs.Words.{◌≡◌, ◌+◌, ◌*◌, ◌<◌, ◌≤◌, ℕ, zero, suc, Bool, List, [], ◌∷◌, Some, All, All-nil, All-append, length, refl, subst, arith, elements, inl, inr}
use Rattle.schedule_build.proofs.Words.{CallRow, Run, Tables, TripRow, day_runs, days_from, is_active, runs_from}
use Rattle.std.specs.Option.{option_map_or}
use Rattle.std.specs.Prelude.{slice_get}
use Rattle.std.proofs.lemmas.Bool.{cases_lt}
use Rattle.schedule_build.specs.Bases.{AreBases, base_at}
use Rattle.schedule_build.specs.Dates.{date_after}
use Rattle.schedule_build.specs.declared.service_day.ServiceDay.{ServiceDay}

-- a day past the last has the base 0
pub past : (bases : List ℕ) (day : ℕ) → length bases ≤ day → base_at bases day ≡ 0
past [] day l = refl
past (base ∷ bases) zero l = absurd (omega arith)
past (base ∷ bases) (suc day) l = past bases day (omega arith)

module _ (days : ℕ) (bases : List ℕ) (h : AreBases days bases) where
  -- each day has at most 26 hours
  base-within : (day : ℕ) → day < days → base_at bases day ≤ 93600 * day
  base-within zero l = omega (arith, h.begin)
  base-within (suc day) l = omega (arith, base-within day (omega arith), h.most day l)

  -- no base of 31 days is more than 30 days of 26 hours after that of day 0
  pub base-bound : days ≤ 31 → (day : ℕ) → base_at bases day ≤ 2808000
  base-bound few day = elim (cases_lt day days) [
    | inl l ↦ omega (arith, base-within day l)
    | inr out ↦ omega (arith, h.count, past bases day)
  ]

-- ---- the bases of days and of trains

day-there : (first : ℕ) (bases : List ℕ) (at days day : ℕ) → day < days → slice_get (days_from first bases at days) day ≡ Some (record { date = date_after first (at + day); base = base_at bases (at + day) })
day-there first bases at zero day l = absurd (omega arith)
day-there first bases at (suc days) zero l = let e : at + 0 ≡ at = omega arith in rw e refl
day-there first bases at (suc days) (suc day) l = let e : at + suc day ≡ at + 1 + day = omega arith in rw e (day-there first bases (at + 1) days day (omega arith))

from-first : (first : ℕ) (bases : List ℕ) (days day : ℕ) → day < days → slice_get (days_from first bases 0 days) day ≡ Some (record { date = date_after first day; base = base_at bases day })
from-first first bases days day l =
    let e : 0 + day ≡ day = omega arith in
    subst (λ (k : ℕ). slice_get (days_from first bases 0 days) day ≡ Some (record { date = date_after first k; base = base_at bases k })) e (day-there first bases 0 days day l)

pub dates-are : (first : ℕ) (bases : List ℕ) (days day : ℕ) → day < days → option_map_or (λ (d : ServiceDay). d.date) (slice_get (days_from first bases 0 days) day) 0 ≡ date_after first day
dates-are first bases days day l = rw (from-first first bases days day l) refl

pub bases-are : (first : ℕ) (bases : List ℕ) (days day : ℕ) → day < days → option_map_or (λ (d : ServiceDay). d.base) (slice_get (days_from first bases 0 days) day) 0 ≡ base_at bases day
bases-are first bases days day l = rw (from-first first bases days day l) refl

runs-at : (P : Run → Type 0) (active : ℕ → Bool) (calls : List CallRow) (day base trip : ℕ) (rows : List TripRow) → ((trip route : ℕ) → P (record { day = day; base = base; trip = trip; route = route })) → All P (day_runs active calls day base trip rows)
runs-at P active calls day base trip [] h = All-nil P
runs-at P active calls day base trip (row ∷ rows) h = grind (arith, elements, h trip row.route, runs-at P active calls day base (trip + 1) rows h)

-- each run has the base that is given for its day
pub runs-based : (t : Tables) (first : ℕ) (bases : List ℕ) (day days : ℕ) → All (λ (r : Run). r.base ≡ base_at bases r.day) (runs_from t first bases day days)
runs-based t first bases day zero = All-nil (λ (r : Run). r.base ≡ base_at bases r.day)
runs-based t first bases day (suc days) =
    let P : Run → Type 0 = λ r. r.base ≡ base_at bases r.day in
    All-append P _ _ (runs-at P (λ service. is_active t service (date_after first day)) t.calls day (base_at bases day) 0 t.trips (λ trip route. refl)) (runs-based t first bases (day + 1) days)
