use Rattle.gtfs_tables.proofs.Words.{◌≡◌, drop, fields_of}
use Rattle.gtfs_tables.specs.Columns.{place_from}
use Rattle.gtfs_tables.proofs.sheets.place_named.Given as goal

abbrev pub invariant-loop-at : goal.invariant-loop-at
invariant-loop-at l = place_from l.name 0 (fields_of l.header) ≡ place_from l.name l.at (drop l.at (fields_of l.header))
