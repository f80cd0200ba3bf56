use Rattle.schedule_build.proofs.Words.{◌≡◌, ◌≤◌, length, drop, pushed, count_calls}
use Rattle.schedule_build.proofs.schedule.push_runs.Given as goal

abbrev pub invariant-loop-run : goal.invariant-loop-run
invariant-loop-run l = record {
  pushed : pushed l.all (drop l.run-index l.runs) l.trains ≡ pushed l.all l.runs l.initial.trains;
  trains_spare : length (drop l.run-index l.runs) ≤ l.trains.spare_trains;
  calls_spare : count_calls l.all (drop l.run-index l.runs) ≤ l.trains.spare_calls;
}
