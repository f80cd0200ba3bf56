-- Scheduled times of the first 31 days are small.
use Rattle.schedule_build.proofs.Words.{IsLawful, Tables, elements, ℕ, ◌^◌, ◌<◌, ◌≤◌, List, [], ◌∷◌, nat_eq, All, arith, suc, All-nil, All-filter, CallRow, trip_of, rows_of, sequence}
use Rattle.schedule_build.proofs.Words.{in_order-all, TableCall, Run, run_calls, IsTimely, timed_calls}

-- the times of the call are below 2^24 seconds
pub record HasSmallTimes (c : TableCall) : Type 0 where
  pub arr : c.arr < 2 ^ 24
  pub dep : c.dep < 2 ^ 24

timed-small : (base : ℕ) (rows : List CallRow) → base ≤ 2808000 → All IsTimely rows → All HasSmallTimes (timed_calls base rows)
timed-small base [] l h = All-nil HasSmallTimes
timed-small base (r ∷ rs) l h = grind (arith, elements, h 0 r (omega arith), timed-small base rs l (λ k d l. h (suc k) d (omega arith)))

-- the times of a run are small
pub run-small : (calls : List CallRow) (r : Run) → All IsTimely calls → r.base ≤ 2808000 → All HasSmallTimes (run_calls calls r)
run-small calls r h l =
    timed-small r.base _ l (in_order-all IsTimely sequence (rows_of calls r.trip) (All-filter (λ c. nat_eq (trip_of c) r.trip) IsTimely calls h))

pub calls-timely : (t : Tables) → IsLawful t → All IsTimely t.calls
calls-timely t h = λ i d l. record { arr = (h.calls i d l).arr; dep = (h.calls i d l).dep }
