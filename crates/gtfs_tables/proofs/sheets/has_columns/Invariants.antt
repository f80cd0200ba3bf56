use Rattle.gtfs_tables.proofs.Words.{◌≡◌, drop, fields_of}
use Rattle.gtfs_tables.specs.Columns.{has_columns}
use Rattle.gtfs_tables.proofs.sheets.has_columns.Given as goal

abbrev pub invariant-loop-column : goal.invariant-loop-column
invariant-loop-column l = has_columns (fields_of l.header) l.columns ≡ has_columns (fields_of l.header) (drop l.column-index l.columns)
