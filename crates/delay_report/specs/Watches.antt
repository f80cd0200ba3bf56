-- The replies to queries whose journeys are watched, and what is told of a watched journey.
use Rattle.std.specs.Prelude.{ℕ, List, Bool, codes}
use Rattle.serde_json.specs.Data.{unsigned, Data, null, boolean, number, string, array, object, no_members, member}
use Rattle.mt_base.specs.declared.journeys.PlanRide.{PlanRide}
use Rattle.standing_laws.specs.declared.standings.Alert.{Alert}
use Rattle.standing_laws.specs.declared.standings.Standing.{Standing}
use Rattle.standing_laws.specs.declared.standings.Standing.TheVariants.{Good, Broken}
use Rattle.schedule_build.specs.Directory.{Names}
use Rattle.delay_report.specs.declared.replies.Reply.{Reply}
use Rattle.delay_report.specs.declared.replies.Reply.TheVariants.{Accepted, Refused, RefusedExtra, Bad, Flush, Journey, NoJourney}
use Rattle.delay_report.specs.Journeys.{ride_objects}
use Rattle.delay_report.specs.Replies.{reply_object, line_of}
use Rattle.delay_report.specs.Trains.{clock_of_day}

-- ---- queries

-- a journey, as `journey_object` has it, and whether it is watched
abbrev pub watched_journey_object : Names → ℕ → ℕ → ℕ → ℕ → List PlanRide → Bool → Data
watched_journey_object names line after day arrives rides watched =
    object (member (codes "after") (number (unsigned after))
    (member (codes "arrives") (string (clock_of_day names day arrives))
    (member (codes "line") (number (unsigned line))
    (member (codes "rides") (array (ride_objects names rides))
    (member (codes "watched") (boolean watched) no_members)))))

-- that there is no journey, as `no_journey_object` has it, and whether one is watched
abbrev pub watched_no_journey_object : ℕ → ℕ → Bool → Data
watched_no_journey_object line after watched =
    object (member (codes "after") (number (unsigned after))
    (member (codes "arrives") null
    (member (codes "line") (number (unsigned line))
    (member (codes "watched") (boolean watched) no_members))))

-- the object of a reply. That of an answer to a query has one member more: whether its journey is
-- watched from then on
abbrev pub watched_object : Names → Bool → Reply → Data
watched_object names watched (Journey line after day arrives rides) =
    watched_journey_object names line after day arrives rides watched
watched_object names watched (NoJourney line after) = watched_no_journey_object line after watched
watched_object names watched (Accepted line count changed) =
    reply_object names (Accepted line count changed)
watched_object names watched (Refused line refusal) = reply_object names (Refused line refusal)
watched_object names watched (RefusedExtra line trip train_day from to) =
    reply_object names (RefusedExtra line trip train_day from to)
watched_object names watched (Bad line bad) = reply_object names (Bad line bad)
watched_object names watched (Flush line count) = reply_object names (Flush line count)

-- the bytes of a reply and whether a journey is watched
unfoldable pub text_of_watched : Names → Bool → Reply → List ℕ
text_of_watched names watched reply = line_of (watched_object names watched reply)

-- ---- alerts

-- the watched journey of a number arrives then, which the clock of a service day tells
abbrev pub arrives_object : Names → ℕ → ℕ → ℕ → ℕ → Data
arrives_object names watch day line arrives =
    object (member (codes "alert") (number (unsigned watch))
    (member (codes "arrives") (string (clock_of_day names day arrives))
    (member (codes "line") (number (unsigned line)) no_members)))

-- a ride of the watched journey of a number can no longer be taken
abbrev pub broken_object : ℕ → ℕ → ℕ → Data
broken_object watch line ride =
    object (member (codes "alert") (number (unsigned watch))
    (member (codes "broken") (number (unsigned ride))
    (member (codes "line") (number (unsigned line)) no_members)))

-- a standing of the watched journey of a number
abbrev pub standing_object : Names → ℕ → ℕ → ℕ → Standing → Data
standing_object names watch day line (Good arrives) = arrives_object names watch day line arrives
standing_object names watch day line (Broken ride) = broken_object watch line ride

-- the bytes of an alert, behind the reply to the message in a line
unfoldable pub text_of_alert : Names → ℕ → Alert → List ℕ
text_of_alert names line a = line_of (standing_object names a.watch a.day line a.standing)
