use Rattle.gtfs_tables.proofs.Words.{◌≡◌, ◌+◌, [], drop, take, length, line_ids, with_stations, stop_ids}
use Rattle.gtfs_tables.proofs.stops.with_stations.Given as goal

abbrev pub invariant-loop-line : goal.invariant-loop-line
invariant-loop-line l = record {
  ids : stop_ids l.rows.items ≡ line_ids (take l.line-index l.table.lines.items);
  rows : with_stations l.table.lines.items 2 [] l.table.lines.items ≡ with_stations l.table.lines.items (length l.rows.items + 2) l.rows.items (drop l.line-index l.table.lines.items);
}
