use Rattle.change_times.proofs.Words.{◌≡◌, ◌++◌, drop, filter, allows}
use Rattle.change_times.proofs.near.allowing.Given as goal

abbrev pub invariant-loop-row : goal.invariant-loop-row
invariant-loop-row l = l.kept.items ++ filter allows (drop l.row-index l.rows) ≡ filter allows l.rows
