-- How a claim is spelled: the object that makes it, with names in place of numbers.
use Rattle.std.specs.Prelude.{◌≡◌, ℕ, ◌-◌, ◌/◌, ◌%◌, ◌^◌, ◌≤◌, ◌<◌, All, IfSome, List, [], ◌∷◌, ◌++◌, nat_lt, if◌then◌else◌, Some, None, codes, decimal}
use Rattle.std.specs.declared.option.Option.{Option}
use Rattle.serde_json.specs.Data.{unsigned, Data, null, number, string, array, object, Items, no_items, item, no_members, member}
use Rattle.mt_base.specs.Civil.{IsCivil}
use Rattle.mt_base.specs.declared.certificates.Reach.{Reach}
use Rattle.schedule_build.specs.Directory.{Names, day_named, date_of_day, id_of_place, base_of}
use Rattle.message_reader.specs.declared.claims.Claim.{Claim}
use Rattle.message_reader.specs.declared.claims.ClaimRide.{ClaimRide}
use Rattle.message_reader.specs.Resolved.{stop_named}
use Rattle.message_reader.specs.ResolvedQueries.{stop_or_station_named}
use Rattle.message_reader.specs.Spelled.{two_digits, date_text, time_text}

-- the hours of a time: two digits, or as many as it takes
abbrev pub hours_text : ℕ → List ℕ
hours_text hours = if nat_lt hours 100 then two_digits hours else decimal hours

-- `H:MM:SS` of so many seconds, with two digits of hours or as many as it takes; 58 is `:`
unfoldable pub long_time_text : ℕ → List ℕ
long_time_text s = hours_text (s / 3600)
    ++ (58 ∷ two_digits (s / 60 % 60) ++ (58 ∷ two_digits (s % 60)))

-- a time by the clock of a service day
abbrev pub time_on_day : Names → ℕ → ℕ → List ℕ
time_on_day names day time = long_time_text (time - base_of names day)

-- the object of a ride
abbrev pub ride_object : ClaimRide → Data
ride_object r =
    object (member (codes "alight") (number (unsigned r.alight))
    (member (codes "board") (number (unsigned r.board))
    (member (codes "date") (string (date_text r.date))
    (member (codes "trip") (string r.trip) no_members))))

-- the list of such objects
unfoldable pub ride_objects : List ClaimRide → Items
ride_objects [] = no_items
ride_objects (r ∷ rs) = item (ride_object r) (ride_objects rs)

-- the object of a reached stop, by the clock of a service day
abbrev pub reach_object : Names → ℕ → Reach → Data
reach_object names day x =
    object (member (codes "stop") (string (id_of_place names x.stop))
    (member (codes "time") (string (time_on_day names day x.time)) no_members))

-- the list of such objects
unfoldable pub reach_objects : Names → ℕ → List Reach → Items
reach_objects names day [] = no_items
reach_objects names day (x ∷ xs) = item (reach_object names day x) (reach_objects names day xs)

-- the arrival by the clock of a service day, or null where there is none
abbrev pub arrival_or_null : Names → ℕ → Option ℕ → Data
arrival_or_null names day None = null
arrival_or_null names day (Some time) = string (time_on_day names day time)

-- the object that makes a claim in version `v`, with its members in the order of their names
abbrev pub claim_object : Names → ℕ → List ℕ → Claim → Data
claim_object names v client c =
    object (member (codes "arrives") (arrival_or_null names c.day c.arrives)
    (member (codes "client") (string client)
    (member (codes "date") (string (date_text (date_of_day names c.day)))
    (member (codes "from") (string (id_of_place names c.query.from_stop))
    (member (codes "reached") (array (reach_objects names c.day c.reached))
    (member (codes "rides") (array (ride_objects c.rides))
    (member (codes "time") (string (time_text (c.query.time - base_of names c.day)))
    (member (codes "to") (string (id_of_place names c.query.to_stop))
    (member (codes "type") (string (codes "claim"))
    (member (codes "v") (number (unsigned v)) no_members))))))))))

-- a time that has a text on a service day: it is not before the base of that day
abbrev pub IsOnDay : Names → ℕ → ℕ → Type 0
IsOnDay names day time = (base_of names day ≤ time) × (time < 2 ^ 25)

-- each date is civil, and each label a number of 32 bits, as labels are
abbrev pub CanBeRidden : ClaimRide → Type 0
CanBeRidden r = IsCivil r.date × (r.board < 2 ^ 32) × (r.alight < 2 ^ 32)

-- the stop is found by its id, and the time has a text
abbrev pub CanBeReached : Names → ℕ → Reach → Type 0
CanBeReached names day x =
    (stop_named names (id_of_place names x.stop) ≡ Some x.stop) × IsOnDay names day x.time

-- each day, place and stop of the claim is found by its name, and each time has a text
pub record CanBeClaimed (names : Names) (c : Claim) : Type 0 where
  pub day : day_named names (date_of_day names c.day) ≡ Some c.day
  pub civil : IsCivil (date_of_day names c.day)
  pub from :
      stop_or_station_named names (id_of_place names c.query.from_stop) ≡ Some c.query.from_stop
  pub to : stop_or_station_named names (id_of_place names c.query.to_stop) ≡ Some c.query.to_stop
  pub begins : base_of names c.day ≤ c.query.time
  pub soon : c.query.time - base_of names c.day ≤ 359999
  pub arrives : IfSome c.arrives (IsOnDay names c.day)
  pub rides : All CanBeRidden c.rides
  pub reached : All (CanBeReached names c.day) c.reached
