-- The replies to queries for all best plans.
use Rattle.std.specs.Prelude.{ℕ, List, [], ◌∷◌, codes}
use Rattle.serde_json.specs.Data.{unsigned, Data, number, string, array, object, Items, no_items, item, no_members, member}
use Rattle.mt_base.specs.declared.journeys.Plan.{Plan}
use Rattle.schedule_build.specs.Directory.{Names}
use Rattle.delay_report.specs.Journeys.{ride_objects}
use Rattle.delay_report.specs.Replies.{line_of}
use Rattle.delay_report.specs.Trains.{clock_of_day}

-- a plan: its arrival, which is told by the clock of a service day, and its rides in their order
abbrev pub plan_object : Names → ℕ → Plan → Data
plan_object names day p =
    object (member (codes "arrives") (string (clock_of_day names day p.arrives))
    (member (codes "rides") (array (ride_objects names p.rides)) no_members))

-- such plans, in their order
unfoldable pub plan_objects : Names → ℕ → List Plan → Items
plan_objects names day [] = no_items
plan_objects names day (p ∷ ps) = item (plan_object names day p) (plan_objects names day ps)

-- the plans in the timetable after so many accepted messages, for the query of a line
abbrev pub plans_object : Names → ℕ → ℕ → ℕ → List Plan → Data
plans_object names line after day plans =
    object (member (codes "after") (number (unsigned after))
    (member (codes "line") (number (unsigned line))
    (member (codes "plans") (array (plan_objects names day plans)) no_members)))

-- the bytes of the reply
unfoldable pub text_of_plans : Names → ℕ → ℕ → ℕ → List Plan → List ℕ
text_of_plans names line after day plans = line_of (plans_object names line after day plans)
