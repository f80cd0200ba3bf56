use Rattle.std.proofs.Common.{◌≡◌, drop}
use Rattle.std.specs.List.{find}
use Rattle.delay_model.specs.Changes.{is_row_of}
use Rattle.delay_model.proofs.changes.first_row.Given as goal

-- the rows so far are for other pairs
abbrev pub invariant-loop-row : goal.invariant-loop-row
invariant-loop-row l = find (is_row_of l.stops l.a l.b) (drop l.row-index l.rows) ≡ find (is_row_of l.stops l.a l.b) l.rows
