use Rattle.schedule_build.proofs.Words.{◌≡◌, drop, list_any, changes}
use Rattle.schedule_build.proofs.services.any_changes.Given as goal

abbrev pub invariant-loop-row : goal.invariant-loop-row
invariant-loop-row l = list_any (changes l.added l.service l.date) (drop l.row-index l.rows) ≡ list_any (changes l.added l.service l.date) l.rows
