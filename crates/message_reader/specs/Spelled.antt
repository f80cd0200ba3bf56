-- How a message or a query is spelled: the object that says it, and in which versions.
use Rattle.std.specs.Prelude.{◌≡◌, ◌⊎◌, ℕ, ◌+◌, ◌/◌, ◌%◌, ◌^◌, ◌<◌, List, [], ◌∷◌, ◌++◌, Bool, if◌then◌else◌, Some, None, codes}
use Rattle.std.specs.declared.option.Option.{Option}
use Rattle.serde_json.specs.Data.{unsigned, Data, null, number, string, array, object, Items, no_items, item, no_members, member}
use Rattle.train_nodes.specs.declared.kinds.ValueKind.{ValueKind}
use Rattle.train_nodes.specs.declared.kinds.ValueKind.TheVariants as values
use Rattle.message_reader.specs.declared.wire.WireCall.{WireCall}
use Rattle.message_reader.specs.declared.wire.WireRef.{WireRef}
use Rattle.message_reader.specs.declared.wire.Connect.{Connect as AConnect}
use Rattle.message_reader.specs.declared.wire.Connect.TheVariants as connects
use Rattle.message_reader.specs.declared.wire.Wire.{Wire}
use Rattle.message_reader.specs.declared.wire.Wire.TheVariants.{Event, Correct, Withdraw, Cancel, Reroute, Extra, Connect}

-- the two digits of a number below 100; 48 is `0`
abbrev pub two_digits : ℕ → List ℕ
two_digits n = (48 + n / 10) ∷ (48 + n % 10) ∷ []

-- `HH:MM:SS` of a time in seconds up to 99:59:59; 58 is `:`
unfoldable pub time_text : ℕ → List ℕ
time_text s = two_digits (s / 3600) ++ (58 ∷ two_digits (s / 60 % 60) ++ (58 ∷ two_digits (s % 60)))

-- the eight digits of a date YYYYMMDD
unfoldable pub date_text : ℕ → List ℕ
date_text date = two_digits (date / 1000000) ++ (two_digits (date / 10000 % 100)
    ++ (two_digits (date / 100 % 100) ++ two_digits (date % 100)))

-- the object that names a call of a train
abbrev pub ref_object : WireRef → Data
ref_object r =
    object (member (codes "call") (number (unsigned r.call))
    (member (codes "date") (string (date_text r.date))
    (member (codes "trip") (string r.trip) no_members)))

-- the object that names a call of a list
abbrev pub call_object : WireCall → Data
call_object c =
    object (member (codes "arr") (string (time_text c.arr))
    (member (codes "dep") (string (time_text c.dep))
    (member (codes "stop") (string c.stop) no_members)))

-- the list of such objects
unfoldable pub call_objects : List WireCall → Items
call_objects [] = no_items
call_objects (c ∷ cs) = item (call_object c) (call_objects cs)

abbrev pub value_name : ValueKind → List ℕ
value_name values.Report = codes "report"
value_name values.Forecast = codes "forecast"

abbrev pub connect_name : AConnect → List ℕ
connect_name connects.Keep = codes "keep"
connect_name connects.Drop = codes "drop"
connect_name connects.Rule = codes "rule"

abbrev pub event_name : Bool → List ℕ
event_name dep = if dep then codes "dep" else codes "arr"

-- the text of a time, or null where there is none
abbrev pub time_or_null : Option ℕ → Data
time_or_null None = null
time_or_null (Some secs) = string (time_text secs)

-- the object that says a message in version `v`, with its members in the order of their names
abbrev pub object_of : ℕ → Wire → Data
object_of v (Event kind trip date call dep secs) =
    object (member (codes "call") (number (unsigned call))
    (member (codes "date") (string (date_text date))
    (member (codes "event") (string (event_name dep))
    (member (codes "time") (string (time_text secs))
    (member (codes "trip") (string trip)
    (member (codes "type") (string (value_name kind))
    (member (codes "v") (number (unsigned v)) no_members)))))))
object_of v (Correct trip date call dep secs) =
    object (member (codes "call") (number (unsigned call))
    (member (codes "date") (string (date_text date))
    (member (codes "event") (string (event_name dep))
    (member (codes "time") (time_or_null secs)
    (member (codes "trip") (string trip)
    (member (codes "type") (string (codes "correct"))
    (member (codes "v") (number (unsigned v)) no_members)))))))
object_of v (Withdraw trip date call dep) =
    object (member (codes "call") (number (unsigned call))
    (member (codes "date") (string (date_text date))
    (member (codes "event") (string (event_name dep))
    (member (codes "trip") (string trip)
    (member (codes "type") (string (codes "withdraw"))
    (member (codes "v") (number (unsigned v)) no_members))))))
object_of v (Cancel trip date from to) =
    object (member (codes "date") (string (date_text date))
    (member (codes "from") (number (unsigned from))
    (member (codes "to") (number (unsigned to))
    (member (codes "trip") (string trip)
    (member (codes "type") (string (codes "cancel"))
    (member (codes "v") (number (unsigned v)) no_members))))))
object_of v (Reroute trip date from to via) =
    object (member (codes "date") (string (date_text date))
    (member (codes "from") (number (unsigned from))
    (member (codes "to") (number (unsigned to))
    (member (codes "trip") (string trip)
    (member (codes "type") (string (codes "reroute"))
    (member (codes "v") (number (unsigned v))
    (member (codes "via") (array (call_objects via)) no_members)))))))
object_of v (Extra trip date route calls) =
    object (member (codes "calls") (array (call_objects calls))
    (member (codes "date") (string (date_text date))
    (member (codes "route") (string route)
    (member (codes "trip") (string trip)
    (member (codes "type") (string (codes "extra"))
    (member (codes "v") (number (unsigned v)) no_members))))))
object_of v (Connect kind feeder train) =
    object (member (codes "feeder") (ref_object feeder)
    (member (codes "train") (ref_object train)
    (member (codes "type") (string (connect_name kind))
    (member (codes "v") (number (unsigned v)) no_members))))

-- the object that asks a query in version `v`
abbrev pub query_object : ℕ → List ℕ → List ℕ → List ℕ → ℕ → ℕ → Data
query_object v client from to date secs =
    object (member (codes "client") (string client)
    (member (codes "date") (string (date_text date))
    (member (codes "from") (string from)
    (member (codes "time") (string (time_text secs))
    (member (codes "to") (string to)
    (member (codes "type") (string (codes "query"))
    (member (codes "v") (number (unsigned v)) no_members)))))))

-- a version of lines
abbrev pub IsVersion : ℕ → Type 0
IsVersion v = (v ≡ 1) ⊎ (v ≡ 2)

-- the message can be said in version `v`
abbrev pub CanBeSaidIn : ℕ → Wire → Type 0
CanBeSaidIn v (Correct trip date call dep secs) = v ≡ 2
CanBeSaidIn v (Withdraw trip date call dep) = v ≡ 2
CanBeSaidIn v _ = IsVersion v

-- every label of the message is a number of 32 bits, as labels are
abbrev pub HasLabels : Wire → Type 0
HasLabels (Event kind trip date call dep secs) = call < 2 ^ 32
HasLabels (Correct trip date call dep secs) = call < 2 ^ 32
HasLabels (Withdraw trip date call dep) = call < 2 ^ 32
HasLabels (Cancel trip date from to) = (from < 2 ^ 32) × (to < 2 ^ 32)
HasLabels (Reroute trip date from to via) = (from < 2 ^ 32) × (to < 2 ^ 32)
HasLabels (Extra trip date route calls) = Unit {0}
HasLabels (Connect kind feeder train) = (feeder.call < 2 ^ 32) × (train.call < 2 ^ 32)
