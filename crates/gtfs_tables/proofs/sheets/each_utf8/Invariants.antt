use Rattle.gtfs_tables.proofs.Words.{◌≡◌, drop, fields_of, all_utf8}
use Rattle.gtfs_tables.proofs.sheets.each_utf8.Given as goal

abbrev pub invariant-loop-at : goal.invariant-loop-at
invariant-loop-at l = all_utf8 (fields_of l.fields) ≡ all_utf8 (drop l.at (fields_of l.fields))
