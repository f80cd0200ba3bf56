use Rattle.schedule_build.proofs.Words.{◌≡◌, ◌≤◌, ◌-◌, ◌++◌, length, runs_from, all_runs}
use Rattle.schedule_build.proofs.runs.all_runs.Given as goal

-- what was added and what is left to add is what all days come to
abbrev pub invariant-loop-day : goal.invariant-loop-day
invariant-loop-day l = record {
  runs : l.runs.items ++ runs_from l.t l.first l.bases l.day (l.days - l.day) ≡ all_runs l.t l.first l.days l.bases;
  few : length l.runs.items ≤ 200000;
}
