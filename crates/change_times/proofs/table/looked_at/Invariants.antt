use Rattle.change_times.proofs.Words.{◌≡◌, ◌++◌, drop, filter, is_looked_at}
use Rattle.change_times.proofs.table.looked_at.Given as goal

abbrev pub invariant-loop-row : goal.invariant-loop-row
invariant-loop-row l =
    l.kept.items ++ filter (is_looked_at l.places) (drop l.row-index l.rows) ≡ filter (is_looked_at l.places) l.rows
