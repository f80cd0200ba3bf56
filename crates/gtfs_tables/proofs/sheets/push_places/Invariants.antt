use Rattle.gtfs_tables.proofs.Words.{◌≡◌, ◌++◌, take, map, fields_of, place_of}
use Rattle.gtfs_tables.proofs.sheets.push_places.Given as goal

abbrev pub invariant-loop-column : goal.invariant-loop-column
invariant-loop-column l = l.places.items ≡ l.initial.places.items ++ map (place_of (fields_of l.header)) (take l.column-index l.columns)
