-- The replies to queries with what is to show that they are right, and the replies to claims.
use Rattle.std.specs.Prelude.{ℕ, List, [], ◌∷◌, Bool, codes}
use Rattle.serde_json.specs.Data.{unsigned, Data, null, boolean, number, string, array, object, Items, no_items, item, no_members, member}
use Rattle.mt_base.specs.declared.certificates.Reach.{Reach}
use Rattle.mt_base.specs.declared.journeys.PlanRide.{PlanRide}
use Rattle.schedule_build.specs.Directory.{Names, id_of_place}
use Rattle.delay_report.specs.declared.replies.Reply.{Reply}
use Rattle.delay_report.specs.declared.replies.Reply.TheVariants.{Accepted, Refused, RefusedExtra, Bad, Flush, Journey, NoJourney}
use Rattle.delay_report.specs.Journeys.{ride_objects}
use Rattle.delay_report.specs.Replies.{reply_object, line_of}
use Rattle.delay_report.specs.Trains.{clock_of_day}

-- ---- queries

-- a stop with a time, which is told by the clock of a service day
abbrev pub reach_object : Names → ℕ → Reach → Data
reach_object names day x =
    object (member (codes "stop") (string (id_of_place names x.stop))
    (member (codes "time") (string (clock_of_day names day x.time)) no_members))

-- such stops, in their order
unfoldable pub reach_objects : Names → ℕ → List Reach → Items
reach_objects names day [] = no_items
reach_objects names day (x ∷ xs) = item (reach_object names day x) (reach_objects names day xs)

-- a journey, as `journey_object` has it, with the list of what is reached
abbrev pub checked_journey_object : Names → ℕ → ℕ → ℕ → ℕ → List PlanRide → Data → Data
checked_journey_object names line after day arrives rides reached =
    object (member (codes "after") (number (unsigned after))
    (member (codes "arrives") (string (clock_of_day names day arrives))
    (member (codes "line") (number (unsigned line))
    (member (codes "reached") reached
    (member (codes "rides") (array (ride_objects names rides)) no_members)))))

-- that there is no journey, as `no_journey_object` has it, with the list of what is reached
abbrev pub checked_no_journey_object : ℕ → ℕ → Data → Data
checked_no_journey_object line after reached =
    object (member (codes "after") (number (unsigned after))
    (member (codes "arrives") null
    (member (codes "line") (number (unsigned line))
    (member (codes "reached") reached no_members))))

-- the object of a reply. That of an answer to a query has one member more: what is reached, by the
-- clock of a service day
abbrev pub checked_object : Names → List Reach → ℕ → Reply → Data
checked_object names reached day (Journey line after query_day arrives rides) =
    checked_journey_object names line after query_day arrives rides
    (array (reach_objects names day reached))
checked_object names reached day (NoJourney line after) =
    checked_no_journey_object line after (array (reach_objects names day reached))
checked_object names reached day (Accepted line count changed) =
    reply_object names (Accepted line count changed)
checked_object names reached day (Refused line refusal) = reply_object names (Refused line refusal)
checked_object names reached day (RefusedExtra line trip train_day from to) =
    reply_object names (RefusedExtra line trip train_day from to)
checked_object names reached day (Bad line bad) = reply_object names (Bad line bad)
checked_object names reached day (Flush line count) = reply_object names (Flush line count)

-- the bytes of a reply with what is reached
unfoldable pub text_of_checked : Names → List Reach → ℕ → Reply → List ℕ
text_of_checked names reached day reply = line_of (checked_object names reached day reply)

-- ---- claims

-- whether a claim is good
abbrev pub claim_object : ℕ → Bool → Data
claim_object line good =
    object (member (codes "claim") (boolean good)
    (member (codes "line") (number (unsigned line)) no_members))

-- the bytes of the reply to a claim
unfoldable pub text_of_claim : ℕ → Bool → List ℕ
text_of_claim line good = line_of (claim_object line good)
