use Rattle.schedule_build.proofs.Words.{◌≡◌, ◌++◌, drop, timed_calls}
use Rattle.schedule_build.proofs.trip_calls.timed_calls.Given as goal

abbrev pub invariant-loop-row : goal.invariant-loop-row
invariant-loop-row l = l.calls.items ++ timed_calls l.base (drop l.row-index l.rows) ≡ timed_calls l.base l.rows
