use Rattle.schedule_build.proofs.Words.{◌≡◌, ◌≤◌, ◌+◌, length, drop, times_of}
use Rattle.schedule_build.proofs.schedule.count_timed.Given as goal

abbrev pub invariant-loop-row : goal.invariant-loop-row
invariant-loop-row l = record {
  count : l.count + length (times_of (drop l.row-index l.rows)) ≡ length (times_of l.rows);
  bound : l.count ≤ l.row-index;
}
