use Rattle.change_times.proofs.Words.{◌≡◌, take, map, without_id}
use Rattle.change_times.specs.Stored.{row_of}
use Rattle.change_times.proofs.places.Places.build.Given as goal

abbrev pub invariant-loop-row : goal.invariant-loop-row
invariant-loop-row l = map row_of l.places.items ≡ map without_id (take l.row-index l.rows)
