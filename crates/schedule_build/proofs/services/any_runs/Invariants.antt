use Rattle.schedule_build.proofs.Words.{◌≡◌, drop, list_any, runs}
use Rattle.schedule_build.proofs.services.any_runs.Given as goal

abbrev pub invariant-loop-row : goal.invariant-loop-row
invariant-loop-row l = list_any (runs l.service l.date l.weekday) (drop l.row-index l.rows) ≡ list_any (runs l.service l.date l.weekday) l.rows
