-- What holds of a timetable that was loaded.
use Rattle.std.proofs.Common.{rules, ◌≡◌, ℕ, ◌+◌, ◌*◌, ◌≤◌, List, [], ◌∷◌, true, false, cond, nat_lt, None, Some, length, map, refl, ap, arith, inl, inr, length-append}
use Rattle.std.proofs.lemmas.Bool.{cases_lt}
use Rattle.std.proofs.lemmas.List.Sums.{sum_by-cons}
use Rattle.mt_base.specs.declared.options.Opts.{Opts}
use Rattle.change_times.specs.ChangeTables.{without_id}
use Rattle.waiting_rules.specs.WaitTable.{parent_station}
use Rattle.mt_base.specs.declared.tables.StopRow.{StopRow}
use Rattle.mt_base.specs.declared.tables.CallRow.{CallRow}
use Rattle.mt_base.specs.declared.tables.What.TheVariants.{Trains, Nodes}
use Rattle.mt_base.specs.Options.{IsInRange}
use Rattle.delay_model.specs.declared.state.Call.{Call}
use Rattle.delay_model.specs.Events.{events_at, events_of, events_from, events}
use Rattle.schedule_build.specs.declared.runs.Run.{Run}
use Rattle.schedule_build.specs.Schedule.{run_calls, run_train, count_calls, too_many, schedule_of}
use Rattle.schedule_build.proofs.StateLemmas.{train-length}

-- two events for each call
events-length : (train route : ℕ) (cs : List Call) → length (events_at train route cs) ≡ 2 * length cs
events-length train route [] = refl
events-length train route (c ∷ cs) = let rest = events-length train route cs in omega (arith, rest)

from-length : (calls : List CallRow) (first : ℕ) (rs : List Run) → length (events_from first (map (run_train calls) rs)) ≡ 2 * count_calls calls rs
from-length calls first [] = refl
from-length calls first (r ∷ rs) =
    let t = run_train calls r in
    let own = events-length first t.route t.calls in
    let calls_of = train-length calls r in
    let rest = from-length calls (first + 1) rs in
    let both = length-append (events_of first t) (events_from (first + 1) (map (run_train calls) rs)) in
    let count = sum_by-cons (λ q. length (run_calls calls q)) r rs in
    omega (arith, own, calls_of, rest, both, count)

few-calls : (trains calls : ℕ) → cond (nat_lt 200000 trains) (Some Trains) (cond (nat_lt 2000000 (2 * calls)) (Some Nodes) None) ≡ None → 2 * calls ≤ 2000000
few-calls trains calls h =
    elim (cases_lt 200000 trains) [
      | inl l ↦ absurd (let e : nat_lt 200000 trains ≡ true = search rules in let x : Some Trains ≡ None = rw e at h in cc)
      | inr l ↦ elim (cases_lt 2000000 (2 * calls)) [
        | inl m ↦
            let e : nat_lt 200000 trains ≡ false = search rules in
            let f : nat_lt 2000000 (2 * calls) ≡ true = search rules in
            absurd (let x : Some Nodes ≡ None = rw (e, f) at h in cc)
        | inr m ↦ m
      ]
    ]

-- the events that there are, and those that can still come
pub few-nodes : (calls : List CallRow) (rs : List Run) (o : Opts) → IsInRange o → too_many calls rs ≡ None → length (events (schedule_of calls rs o)) + 2 * o.spare_calls ≤ 2097152
unfolding events
few-nodes calls rs o range h =
    let many = from-length calls 0 rs in
    let few = few-calls (length rs) (count_calls calls rs) h in
    omega (arith, many, few, range.spare_calls)

-- the parent stations of locations without their ids
pub parents-without-ids : (stops : List StopRow) → map parent_station (map without_id stops) ≡ map parent_station stops
parents-without-ids [] = refl
parents-without-ids (row ∷ rows) = ap (λ ps. parent_station row ∷ ps) (parents-without-ids rows)
