use Rattle.schedule_build.proofs.Words.{◌≡◌, map, take}
use Rattle.mt_base.specs.declared.tables.StopRow.{StopRow}
use Rattle.schedule_build.proofs.places.ids_of.Given as goal

-- the ids so far
abbrev pub invariant-loop-row : goal.invariant-loop-row
invariant-loop-row l = l.ids.items ≡ map (λ (r : StopRow). r.id) (take l.row-index l.rows)
