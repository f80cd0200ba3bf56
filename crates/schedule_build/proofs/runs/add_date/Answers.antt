use Rattle.schedule_build.proofs.Words.{◌≡◌, ◌<◌, ℕ, length, is_active, is_set, day_runs, runs_on}
use Rattle.schedule_build.specs.Dates.{date_after}
use Rattle.schedule_build.proofs.RunLemmas.{day_runs-same}
use Rattle.schedule_build.proofs.runs.add_date.Goals as goal

day-is : (c : goal.After-drop-active) → day_runs (is_set c.as_slice-2.result.now) c.args.all.now c.args.day c.args.base 0 c.as_slice.result.now ≡ runs_on c.args.t.now c.args.first c.args.day c.args.base
day-is c =
    let t = c.args.t.now in
    let marks : (s : ℕ) → s < length t.services → is_set c.as_slice-2.result.now s ≡ is_active t s (date_after c.args.first c.args.day) = λ s l.
    rw (c.as_slice-2.ensures.value, ← c.date_after.ensures.date) (c.in_ok-active.ensures.marks s l) in
    rw c.as_slice.ensures (day_runs-same _ _ _ _ t.calls c.args.day c.args.base 0 t.trips marks c.requires.grouped.same (λ k d l. (c.requires.lawful.trips k d l).service))

pub returns-clause-runs : goal.returns-clause-runs
returns-clause-runs c = rw (← day-is c) c.add_day.ensures.runs

pub returns-clause-fault : goal.returns-clause-fault
returns-clause-fault c = rw (← day-is c) c.add_day.ensures.fault
