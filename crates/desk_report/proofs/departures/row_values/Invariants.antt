use Rattle.std.proofs.Common.{◌≡◌, ◌++◌, map, drop}
use Rattle.serde_json.specs.View.{view, items_of}
use Rattle.desk_report.specs.Departures.{row_object, row_objects}
use Rattle.desk_report.proofs.departures.row_values.Given as goal

abbrev pub invariant-loop-row : goal.invariant-loop-row
invariant-loop-row l = items_of (map view l.values.items ++ map (row_object l.dir) (drop l.row-index l.rows)) ≡ row_objects l.dir l.rows
