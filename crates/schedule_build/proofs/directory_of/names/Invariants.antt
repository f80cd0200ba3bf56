use Rattle.schedule_build.proofs.Words.{◌≡◌, take}
use Rattle.schedule_build.proofs.directory_of.names.Given as goal

-- the names so far
abbrev pub invariant-loop-row : goal.invariant-loop-row
invariant-loop-row l = l.names.items ≡ take l.row-index l.rows
