-- On 5 January 2026 each trip runs once, with four calls at most.
use Rattle.feed_gen_laws.proofs.Words.{Bool, CallRow, List, None, Option, Some, [], all_runs, ap, append-nil, arith, cases_eq, eq-eqb, flat_map, inl, inr, le-ltb, length, length-map-range_with_len, map, ne_eqb, range_with_len, refl, suc, true, zero, ℕ, ◌*◌, ◌+◌, ◌<◌, ◌∙◌, ◌∷◌, ◌≡◌, ◌≤◌}
use Rattle.std.proofs.Common.{nat_lt}
use Rattle.std.proofs.lemmas.List.Sums.{sum_by-cons}
use Rattle.std.specs.List.{cons_option, filter_map}
use Rattle.feed_tables.proofs.OrderLemmas.{in_order-length}
use Rattle.feed_tables.specs.Calls.{has_calls, in_order, rows_of, sequence}
use Rattle.jiff_core.specs.Calendar.{day_count, days_from_civil, days_of_months, days_of_years, weekday_number}
use Rattle.schedule_build.specs.Dates.{date_after}
use Rattle.schedule_build.specs.Runs.{day_runs}
use Rattle.schedule_build.specs.Schedule.{count_calls, run_calls, too_many}
use Rattle.schedule_build.specs.Services.{is_active}
use Rattle.schedule_build.specs.TripCalls.{timed_call}
use Rattle.schedule_build.specs.declared.runs.Run.{Run}
use Rattle.feed_gen_laws.proofs.Calls.{by-train, call, of_row, of_train}
use Rattle.feed_gen_laws.proofs.Rows.{numbers}
use Rattle.feed_gen_laws.proofs.HeldTables.{made_tables}
use Rattle.feed_gen_laws.proofs.Trips.{trip}

-- the service runs on that day, a Monday
is-on : (trains places : ℕ) → is_active (made_tables trains places) 0 (date_after 20260105 0) ≡ true
unfolding date_after days_from_civil day_count days_of_months days_of_years weekday_number
is-on trains places = refl

-- ---- the rows of a trip

rows-before : (t at n : ℕ) → t < at → rows_of (flat_map (of_train call) (range_with_len at n)) t ≡ []
rows-before t at zero l = refl
rows-before t at (suc n) l = rw (ne_eqb at t (λ e. omega (arith, e))) (rows-before t (at + 1) n (omega arith))

four-rows : (t at n : ℕ) → at ≤ t → t < at + n → length (rows_of (flat_map (of_train call) (range_with_len at n)) t) ≡ 4
four-rows t at zero l m = absurd (omega arith)
four-rows t at (suc n) l m = elim (cases_eq at t) [
  | inl same ↦ rw (eq-eqb at t same, rows-before t (at + 1) n (omega (arith, same))) refl
  | inr other ↦ rw (ne_eqb at t other) (four-rows t (at + 1) n (omega (arith, other)) (omega arith))
]

-- the calls of so many trains
abbrev calls : ℕ → List CallRow
calls trains = map (of_row call) (numbers (4 * trains))

trip-rows : (trains t : ℕ) → t < trains → length (rows_of (calls trains) t) ≡ 4
trip-rows trains t l = ap (λ (rows : List CallRow). length (rows_of rows t)) (by-train call 0 trains) ∙ four-rows t 0 trains (omega arith) (omega arith)

has-rows : (trains t : ℕ) → t < trains → has_calls (calls trains) t ≡ true
has-rows trains t l = ap (nat_lt 0) (trip-rows trains t l)

-- ---- the runs

abbrev pub run : ℕ → Run
run t = record { day = 0; base = 0; trip = t; route = 0 }

-- a service that runs, and trips that have calls
day-runs : (active : ℕ → Bool) (rows : List CallRow) (at n : ℕ) → active 0 ≡ true → ((t : ℕ) → t < at + n → has_calls rows t ≡ true) → day_runs active rows 0 0 at (map trip (range_with_len at n)) ≡ map run (range_with_len at n)
day-runs active rows at zero on has = refl
day-runs active rows at (suc n) on has =
    rw (on, has at (omega arith)) (ap (λ rs. run at ∷ rs) (day-runs active rows (at + 1) n on (λ t l. has t (omega arith))))

pub runs-are : (trains places : ℕ) → all_runs (made_tables trains places) 20260105 1 (0 ∷ []) ≡ map run (numbers trains)
runs-are trains places =
    append-nil (day_runs (λ service. is_active (made_tables trains places) service (date_after 20260105 0)) (calls trains) 0 0 0 (map trip (numbers trains)))
    ∙ day-runs (λ service. is_active (made_tables trains places) service (date_after 20260105 0)) (calls trains) 0 trains (is-on trains places) (λ t l. has-rows trains t (omega arith))

-- ---- how many calls they have

with-more : {A : Type 0} (o : Option A) (xs : List A) → length (cons_option o xs) ≤ suc (length xs)
with-more None xs = omega arith
with-more (Some x) xs = omega arith

-- a list is not longer where some elements give nothing
pub length-given : {A B : Type 0} (f : A → Option B) (xs : List A) → length (filter_map f xs) ≤ length xs
length-given f [] = omega arith
length-given f (x ∷ xs) = omega (arith, with-more (f x) (filter_map f xs), length-given f xs)

run-short : (rows : List CallRow) (t : ℕ) → length (run_calls rows (run t)) ≤ length (rows_of rows t)
run-short rows t = omega (arith, length-given (timed_call 0) (in_order sequence (rows_of rows t)), in_order-length sequence (rows_of rows t))

count-short : (rows : List CallRow) (at n : ℕ) → ((t : ℕ) → t < at + n → length (rows_of rows t) ≡ 4) → count_calls rows (map run (range_with_len at n)) ≤ 4 * n
count-short rows at zero each = omega arith
count-short rows at (suc n) each =
    omega (arith, sum_by-cons (λ r. length (run_calls rows r)) (run at) (map run (range_with_len (at + 1) n)), run-short rows at, each at (omega arith), count-short rows (at + 1) n (λ t l. each t (omega arith)))

pub not-too-many : (trains places : ℕ) → trains ≤ 100000 → too_many (calls trains) (all_runs (made_tables trains places) 20260105 1 (0 ∷ [])) ≡ None
not-too-many trains places few =
    let short = count-short (calls trains) 0 trains (λ t l. trip-rows trains t (omega arith)) in
    rw (runs-are trains places, length-map-range_with_len run 0 trains, le-ltb 200000 trains (omega arith), le-ltb 2000000 (2 * count_calls (calls trains) (map run (numbers trains))) (omega (arith, short))) refl
