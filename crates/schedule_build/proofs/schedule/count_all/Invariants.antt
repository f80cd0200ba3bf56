use Rattle.schedule_build.proofs.Words.{◌≡◌, ◌≤◌, ◌+◌, drop, count_calls}
use Rattle.schedule_build.proofs.schedule.count_all.Given as goal

abbrev pub invariant-loop-run : goal.invariant-loop-run
invariant-loop-run l = record {
  count : l.count + count_calls l.all (drop l.run-index l.runs) ≡ count_calls l.all l.runs;
  few : l.count ≤ 1000000;
}
