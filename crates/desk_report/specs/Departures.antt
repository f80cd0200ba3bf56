-- The replies to questions for the next departures of a station.
use Rattle.std.specs.Prelude.{ℕ, List, [], ◌∷◌, codes}
use Rattle.serde_json.specs.Data.{unsigned, Data, number, string, array, object, Items, no_items, item, no_members, member}
use Rattle.board_laws.specs.declared.rows.BoardRow.{BoardRow}
use Rattle.schedule_build.specs.Directory.{Names, id_of_place, trip_of_train}
use Rattle.delay_report.specs.Replies.{line_of}
use Rattle.delay_report.specs.Trains.{clock_of_train, date_of_train}

-- a departure: its train and its call, when it is scheduled and when it takes place, where, and the
-- stop to which the train goes. The times are told by the clock of the train's service day
abbrev pub row_object : Names → BoardRow → Data
row_object names r =
    object (member (codes "call") (number (unsigned r.event.label))
    (member (codes "date") (string (date_of_train names r.event.train))
    (member (codes "scheduled") (string (clock_of_train names r.event.train r.event.time))
    (member (codes "stop") (string (id_of_place names r.stop))
    (member (codes "time") (string (clock_of_train names r.event.train r.time))
    (member (codes "to") (string (id_of_place names r.to))
    (member (codes "trip") (string (trip_of_train names r.event.train)) no_members)))))))

-- such departures, in their order
unfoldable pub row_objects : Names → List BoardRow → Items
row_objects names [] = no_items
row_objects names (r ∷ rs) = item (row_object names r) (row_objects names rs)

-- the departures in the timetable after so many accepted messages, for the question of a line
abbrev pub departures_object : Names → ℕ → ℕ → List BoardRow → Data
departures_object names line after rows =
    object (member (codes "after") (number (unsigned after))
    (member (codes "departures") (array (row_objects names rows))
    (member (codes "line") (number (unsigned line)) no_members)))

-- the bytes of the reply
unfoldable pub text_of_departures : Names → ℕ → ℕ → List BoardRow → List ℕ
text_of_departures names line after rows = line_of (departures_object names line after rows)
