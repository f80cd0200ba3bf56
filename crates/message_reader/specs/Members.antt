-- The names of members.
use Rattle.std.specs.Prelude.{ℕ, List, codes}
use Rattle.message_reader.specs.declared.members.Key.{Key}
use Rattle.message_reader.specs.declared.members.Key.TheVariants.{Call, Client, Date, Event, From, Route, Time, To, Trip, Kind, Version}
use Rattle.message_reader.specs.declared.members.NestedKey.{NestedKey}
use Rattle.message_reader.specs.declared.members.NestedKey.TheVariants.{Calls, Feeder, Train, Via}

-- the name of a member that is a text, a number or null
abbrev pub key_name : Key → List ℕ
key_name Call = codes "call"
key_name Client = codes "client"
key_name Date = codes "date"
key_name Event = codes "event"
key_name From = codes "from"
key_name Route = codes "route"
key_name Time = codes "time"
key_name To = codes "to"
key_name Trip = codes "trip"
key_name Kind = codes "type"
key_name Version = codes "v"

-- the name of a member that is a list or an object
abbrev pub nested_name : NestedKey → List ℕ
nested_name Calls = codes "calls"
nested_name Feeder = codes "feeder"
nested_name Train = codes "train"
nested_name Via = codes "via"
