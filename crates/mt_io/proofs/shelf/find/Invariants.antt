use Rattle.std.proofs.Common.{◌≡◌, map, drop}
use Rattle.mt_io.specs.Shelves.{shelved}
use Rattle.mt_io.specs.Tables.{table_in}
use Rattle.mt_io.proofs.shelf.find.Given as goal

abbrev pub invariant-loop-table : goal.invariant-loop-table
invariant-loop-table l = table_in (map shelved (drop l.table-index l.tables)) l.folder l.name ≡ table_in (map shelved l.tables) l.folder l.name
