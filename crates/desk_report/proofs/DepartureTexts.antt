-- The texts of departures.
use Rattle.std.proofs.Common.{◌≡◌, List, [], ◌∷◌, false, map, refl, ap}
use Rattle.serde_json.specs.Data.{item}
use Rattle.serde_json.specs.View.{items_of}
use Rattle.serde_json.specs.Written.{items_have_float}
use Rattle.board_laws.specs.declared.rows.BoardRow.{BoardRow}
use Rattle.schedule_build.specs.Directory.{Names}
use Rattle.desk_report.specs.Departures.{row_object, row_objects}

-- the objects of departures, one after the other
pub rows_listed : (names : Names) (rows : List BoardRow) → items_of (map (row_object names) rows) ≡ row_objects names rows
unfolding row_objects
rows_listed names [] = refl
rows_listed names (r ∷ rs) = ap (item (row_object names r)) (rows_listed names rs)

-- no departure holds a floating-point number, so its text is known byte by byte
pub rows_are_whole : (names : Names) (rows : List BoardRow) → items_have_float (row_objects names rows) ≡ false
unfolding row_objects
rows_are_whole names [] = refl
rows_are_whole names (r ∷ rs) = rows_are_whole names rs
