use Rattle.schedule_build.proofs.Words.{◌≡◌, map, take}
use Rattle.mt_base.specs.declared.tables.StopRow.{StopRow}
use Rattle.schedule_build.proofs.places.kinds_of.Given as goal

-- the kinds so far
abbrev pub invariant-loop-row : goal.invariant-loop-row
invariant-loop-row l = l.kinds.items ≡ map (λ (r : StopRow). r.kind) (take l.row-index l.rows)
