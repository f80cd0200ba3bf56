-- The reply to a line: one JSON object, and an LF.
use Rattle.std.specs.Prelude.{ℕ, List, [], ◌∷◌, ◌++◌, Bool, if◌then◌else◌, codes}
use Rattle.serde_json.specs.Data.{unsigned, Data, number, string, object, no_members, member}
use Rattle.serde_json.specs.Written.{compact_text}
use Rattle.mt_base.specs.declared.keys.Node.{Node}
use Rattle.delay_model.specs.declared.messages.Refusal.{Refusal}
use Rattle.delay_model.specs.declared.messages.Refusal.TheVariants as refusals
use Rattle.delay_model.specs.declared.messages.Short.{Short}
use Rattle.delay_model.specs.declared.messages.Short.TheVariants as shorts
use Rattle.schedule_build.specs.Directory.{Names, trip_of_train, day_of_train, date_of_day}
use Rattle.message_reader.specs.declared.bad_line.BadLine.{BadLine}
use Rattle.message_reader.specs.declared.bad_line.BadLine.TheVariants as lines
use Rattle.delay_report.specs.declared.replies.Reply.{Reply}
use Rattle.delay_report.specs.declared.replies.Reply.TheVariants.{Accepted, Refused, RefusedExtra, Bad, Flush, Journey, NoJourney}
use Rattle.delay_report.specs.Clocks.{date_text}
use Rattle.delay_report.specs.Trains.{clock_of_train}
use Rattle.delay_report.specs.Journeys.{journey_object, no_journey_object}

-- the word for a departure (dep true) or an arrival (dep false)
abbrev pub event_word : Bool → List ℕ
event_word dep = if dep then codes "dep" else codes "arr"

-- why a line is bad
abbrev pub bad_word : BadLine → List ℕ
bad_word lines.Long = codes "long"
bad_word lines.Utf8 = codes "utf8"
bad_word lines.Json = codes "json"
bad_word lines.Shape = codes "shape"
bad_word lines.Stop = codes "stop"
bad_word lines.Time = codes "time"

-- what a timetable has too little room for
abbrev pub short_word : Short → List ℕ
short_word shorts.Trains = codes "trains"
short_word shorts.Calls = codes "calls"
short_word shorts.Overrides = codes "overrides"

-- the object that names an event of the train of a trip on a service day
abbrev pub event_of_trip : Names → List ℕ → ℕ → Node → Data
event_of_trip names trip day n =
    object (member (codes "call") (number (unsigned n.label))
    (member (codes "date") (string (date_text (date_of_day names day)))
    (member (codes "event") (string (event_word n.dep))
    (member (codes "trip") (string trip) no_members))))

-- the same for a train that has its name and its service day by number
abbrev pub event_object : Names → Node → Data
event_object names n = event_of_trip names (trip_of_train names n.train)
    (day_of_train names n.train) n

-- a refusal of which the word says all
abbrev pub plain_refusal : ℕ → List ℕ → Data
plain_refusal line word =
    object (member (codes "line") (number (unsigned line))
    (member (codes "refused") (string word) no_members))

-- the event was reported at a time that the message contradicts
abbrev pub contradiction_object : Names → ℕ → Node → ℕ → Data
contradiction_object names line event reported =
    object (member (codes "event") (event_object names event)
    (member (codes "line") (number (unsigned line))
    (member (codes "refused") (string (codes "Contradiction"))
    (member (codes "reported") (string (clock_of_train names event.train reported)) no_members))))

-- the new timetable would have an edge against the order of keys, between the events that these
-- objects name
abbrev pub rank_object : ℕ → Data → Data → Data
rank_object line from to =
    object (member (codes "from") from
    (member (codes "line") (number (unsigned line))
    (member (codes "refused") (string (codes "AgainstRank"))
    (member (codes "to") to no_members))))

-- too little is spare
abbrev pub full_object : ℕ → Short → Data
full_object line what =
    object (member (codes "full") (string (short_word what))
    (member (codes "line") (number (unsigned line))
    (member (codes "refused") (string (codes "Full")) no_members)))

-- a refused message
abbrev pub refusal_object : Names → ℕ → Refusal → Data
refusal_object names line refusals.Unknown = plain_refusal line (codes "Unknown")
refusal_object names line refusals.Known = plain_refusal line (codes "Known")
refusal_object names line refusals.NoConnection = plain_refusal line (codes "NoConnection")
refusal_object names line (refusals.Contradiction event reported) =
    contradiction_object names line event reported
refusal_object names line (refusals.AgainstRank from to) =
    rank_object line (event_object names from) (event_object names to)
refusal_object names line (refusals.Full what) = full_object line what
refusal_object names line refusals.Nothing = plain_refusal line (codes "Nothing")

-- an extra train that is refused since an edge of it runs against the order of keys. It has no
-- number, so its trip and its service day are told
abbrev pub refused_extra_object : Names → ℕ → List ℕ → ℕ → Node → Node → Data
refused_extra_object names line trip day from to =
    rank_object line (event_of_trip names trip day from) (event_of_trip names trip day to)

-- an accepted message: its number among those accepted, and how many events it changes: those that
-- it takes away or adds, and those that have another time
abbrev pub accepted_object : ℕ → ℕ → ℕ → Data
accepted_object line count changed =
    object (member (codes "accepted") (number (unsigned count))
    (member (codes "changed") (number (unsigned changed))
    (member (codes "line") (number (unsigned line)) no_members)))

-- a bad line
abbrev pub bad_object : ℕ → BadLine → Data
bad_object line bad =
    object (member (codes "bad") (string (bad_word bad))
    (member (codes "line") (number (unsigned line)) no_members))

-- a flush: how many messages were accepted before it
abbrev pub flush_object : ℕ → ℕ → Data
flush_object line count =
    object (member (codes "flush") (number (unsigned count))
    (member (codes "line") (number (unsigned line)) no_members))

-- the object of a reply
abbrev pub reply_object : Names → Reply → Data
reply_object names (Accepted line count changed) = accepted_object line count changed
reply_object names (Refused line refusal) = refusal_object names line refusal
reply_object names (RefusedExtra line trip day from to) =
    refused_extra_object names line trip day from to
reply_object names (Bad line bad) = bad_object line bad
reply_object names (Flush line count) = flush_object line count
reply_object names (Journey line after day arrives rides) =
    journey_object names line after day arrives rides
reply_object names (NoJourney line after) = no_journey_object line after

-- an object without blanks, and an LF, which is 10
abbrev pub line_of : Data → List ℕ
line_of d = compact_text d ++ 10 ∷ []

-- the bytes of a reply
unfoldable pub text_of_reply : Names → Reply → List ℕ
text_of_reply names reply = line_of (reply_object names reply)
