-- The replies to questions why an event is when it is.
use Rattle.std.specs.Prelude.{ℕ, List, [], ◌∷◌, codes}
use Rattle.serde_json.specs.Data.{unsigned, Data, number, string, array, object, Items, no_items, item, no_members, member}
use Rattle.cause_laws.specs.declared.causes.Cause.{Cause}
use Rattle.cause_laws.specs.declared.causes.Cause.TheVariants.{Report, Capped, Schedule, Forecast, Run, Stop, Hold, Kept}
use Rattle.cause_laws.specs.declared.causes.Link.{Link}
use Rattle.schedule_build.specs.Directory.{Names, trip_of_train}
use Rattle.delay_report.specs.Replies.{event_word, line_of}
use Rattle.delay_report.specs.Trains.{clock_of_train, date_of_train}

-- the word for a cause
abbrev pub cause_word : Cause → List ℕ
cause_word Report = codes "report"
cause_word (Capped k) = codes "capped"
cause_word Schedule = codes "schedule"
cause_word Forecast = codes "forecast"
cause_word (Run k) = codes "run"
cause_word (Stop k) = codes "stop"
cause_word (Hold k) = codes "hold"
cause_word (Kept k) = codes "kept"

-- a link: its event, when it takes place by the clock of the train's service day, and what decides
-- that
abbrev pub link_object : Names → Link → Data
link_object names l =
    object (member (codes "by") (string (cause_word l.cause))
    (member (codes "call") (number (unsigned l.event.label))
    (member (codes "date") (string (date_of_train names l.event.train))
    (member (codes "event") (string (event_word l.event.dep))
    (member (codes "time") (string (clock_of_train names l.event.train l.time))
    (member (codes "trip") (string (trip_of_train names l.event.train)) no_members))))))

-- such links, in their order
unfoldable pub link_objects : Names → List Link → Items
link_objects names [] = no_items
link_objects names (l ∷ ls) = item (link_object names l) (link_objects names ls)

-- the chain of an event in the timetable after so many accepted messages, for the question of a line
abbrev pub because_object : Names → ℕ → ℕ → List Link → Data
because_object names line after links =
    object (member (codes "after") (number (unsigned after))
    (member (codes "because") (array (link_objects names links))
    (member (codes "line") (number (unsigned line)) no_members)))

-- the bytes of the reply
unfoldable pub text_of_because : Names → ℕ → ℕ → List Link → List ℕ
text_of_because names line after links = line_of (because_object names line after links)
