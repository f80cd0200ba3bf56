use Rattle.schedule_build.proofs.Words.{◌≡◌, ◌≤◌, ◌++◌, length, drop, is_set, day_runs}
use Rattle.schedule_build.proofs.runs.add_day.Given as goal

-- what was added and what is left to add is what all trips come to
abbrev pub invariant-loop-trip : goal.invariant-loop-trip
invariant-loop-trip l = record {
  runs : l.runs.items ++ day_runs (is_set l.active) l.all l.day l.base l.trip (drop l.trip l.trips) ≡ l.initial.runs.items ++ day_runs (is_set l.active) l.all l.day l.base 0 l.trips;
  few : length l.runs.items ≤ 200000;
}
