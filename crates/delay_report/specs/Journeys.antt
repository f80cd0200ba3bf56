-- The replies to queries: the rides of a journey, or that there is none.
use Rattle.std.specs.Prelude.{ℕ, List, [], ◌∷◌, codes}
use Rattle.serde_json.specs.Data.{unsigned, Data, null, number, string, array, object, Items, no_items, item, no_members, member}
use Rattle.mt_base.specs.declared.journeys.PlanRide.{PlanRide}
use Rattle.schedule_build.specs.Directory.{Names, trip_of_train, id_of_place}
use Rattle.delay_report.specs.Trains.{date_of_train, clock_of_train, clock_of_day}

-- the call where a passenger boards or alights, and when: its label, the `stop_id`, and the time by
-- the clock of the train's service day
abbrev pub call_of_ride_object : Names → ℕ → ℕ → ℕ → ℕ → Data
call_of_ride_object names train label stop time =
    object (member (codes "call") (number (unsigned label))
    (member (codes "stop") (string (id_of_place names stop))
    (member (codes "time") (string (clock_of_train names train time)) no_members)))

-- a ride, with the trip and the service day of its train
abbrev pub ride_object : Names → PlanRide → Data
ride_object names r =
    object (member (codes "alight") (call_of_ride_object names r.train r.alight r.alight_stop
    r.alight_time)
    (member (codes "board") (call_of_ride_object names r.train r.board r.board_stop r.board_time)
    (member (codes "date") (string (date_of_train names r.train))
    (member (codes "trip") (string (trip_of_train names r.train)) no_members))))

-- the rides of a journey, in their order
unfoldable pub ride_objects : Names → List PlanRide → Items
ride_objects names [] = no_items
ride_objects names (r ∷ rs) = item (ride_object names r) (ride_objects names rs)

-- a journey in the timetable after so many accepted messages. Its arrival is told by the clock of
-- the service day on which the query's time lies
abbrev pub journey_object : Names → ℕ → ℕ → ℕ → ℕ → List PlanRide → Data
journey_object names line after day arrives rides =
    object (member (codes "after") (number (unsigned after))
    (member (codes "arrives") (string (clock_of_day names day arrives))
    (member (codes "line") (number (unsigned line))
    (member (codes "rides") (array (ride_objects names rides)) no_members))))

-- the timetable after so many accepted messages has no journey
abbrev pub no_journey_object : ℕ → ℕ → Data
no_journey_object line after =
    object (member (codes "after") (number (unsigned after))
    (member (codes "arrives") null
    (member (codes "line") (number (unsigned line)) no_members)))
