-- The message by number that a message by name stands for, or the refusal that the names decide.
-- The refusals, in order: `Unknown`, a train, a stop, a route or a service day of the message has
-- no number (the new train of an extra needs none); `Known`, the new train of an extra is there
-- already.
use Rattle.std.specs.Prelude.{ℕ, ◌+◌, List, [], ◌∷◌, Bool, true, false, if◌then◌else◌, length, Some, None, is_none, option_and_then, Result, Ok}
use Rattle.std.specs.declared.option.Option.{Option}
use Rattle.std.specs.Option.{option_map, option_map_or}
use Rattle.mt_base.specs.declared.keys.Node.{Node}
use Rattle.mt_base.specs.declared.new_calls.NewCall.{NewCall}
use Rattle.mt_base.specs.Places.{is_platform}
use Rattle.delay_model.specs.declared.messages.Message.{Message}
use Rattle.delay_model.specs.declared.messages.Message.TheVariants as messages
use Rattle.delay_model.specs.declared.messages.Refusal.{Refusal}
use Rattle.delay_model.specs.declared.messages.Refusal.TheVariants as refusals
use Rattle.schedule_build.specs.Directory.{Names, train_named, day_named, place_named, route_named, kind_of_place, base_of}
use Rattle.message_reader.specs.declared.numbers.TrainOnDay.{TrainOnDay}
use Rattle.message_reader.specs.declared.wire.Connect.{Connect as AConnect}
use Rattle.message_reader.specs.declared.wire.Connect.TheVariants as connects
use Rattle.train_nodes.specs.declared.kinds.ValueKind.{ValueKind}
use Rattle.train_nodes.specs.Kinds.{message_by_kind}
use Rattle.message_reader.specs.declared.wire.WireCall.{WireCall}
use Rattle.message_reader.specs.declared.wire.WireRef.{WireRef}
use Rattle.message_reader.specs.declared.wire.Wire.{Wire}
use Rattle.message_reader.specs.declared.wire.Wire.TheVariants.{Event, Correct, Withdraw, Cancel, Reroute, Extra, Connect}
use Rattle.message_reader.specs.Chain.{◌>>=◌, need, unless}

-- ---- single names

-- the train of a trip on a date, by number, and its service day: the loaded day that has the date
unfoldable pub train_on : Names → List ℕ → ℕ → Result TrainOnDay Refusal
train_on names trip date = do
  day ← need refusals.Unknown (day_named names date)
  train ← need refusals.Unknown (train_named names trip day)
  Ok (record { train = train; day = day })

-- the arrival or the departure of a call of the train
abbrev pub event_on : TrainOnDay → ℕ → Bool → Node
event_on found call dep = record { train = found.train; label = call; dep = dep }

-- the place with an id, if it is a stop, where trains call
unfoldable pub stop_named : Names → List ℕ → Option ℕ
stop_named names id =
    option_and_then (λ place. if option_map_or is_platform (kind_of_place names place) false
    then Some place else None)
    (place_named names id)

-- the arrival or the departure of a call
unfoldable pub node_named : Names → Bool → WireRef → Result Node Refusal
node_named names dep r = do
  found ← train_on names r.trip r.date
  Ok (event_on found r.call dep)

-- a new call of a train on a service day
unfoldable pub new_call : Names → ℕ → WireCall → Result NewCall Refusal
new_call names day call = do
  stop ← need refusals.Unknown (stop_named names call.stop)
  Ok (record {
    stop = stop;
    arr = base_of names day + call.arr;
    dep = base_of names day + call.dep;
  })

-- new calls of a train on a service day
unfoldable pub new_calls : Names → ℕ → List WireCall → Result (List NewCall) Refusal
new_calls names day [] = Ok []
new_calls names day (c ∷ cs) = do
  call ← new_call names day c
  calls ← new_calls names day cs
  Ok (call ∷ calls)

-- ---- messages

-- what is said of a feeder and the train that may wait for it
abbrev pub connect_message : AConnect → Node → Node → Message
connect_message connects.Keep feeder train = messages.Keep feeder train
connect_message connects.Drop feeder train = messages.Drop feeder train
connect_message connects.Rule feeder train = messages.Rule feeder train

-- a report or a forecast, at so many seconds on the train's service day
unfoldable pub event_resolved : Names → ValueKind → List ℕ → ℕ → ℕ → Bool → ℕ
    → Result Message Refusal
event_resolved names kind trip date call dep secs = do
  found ← train_on names trip date
  Ok (message_by_kind kind (event_on found call dep) (base_of names found.day + secs))

-- a corrected report: at so many seconds on the train's service day, or none
unfoldable pub correct_resolved : Names → List ℕ → ℕ → ℕ → Bool → Option ℕ
    → Result Message Refusal
correct_resolved names trip date call dep secs = do
  found ← train_on names trip date
  Ok (messages.Correct (event_on found call dep)
      (option_map (λ s. base_of names found.day + s) secs))

-- a withdrawn forecast
unfoldable pub withdraw_resolved : Names → List ℕ → ℕ → ℕ → Bool → Result Message Refusal
withdraw_resolved names trip date call dep = do
  found ← train_on names trip date
  Ok (messages.Withdraw (event_on found call dep))

-- a cancelled stretch
unfoldable pub cancel_resolved : Names → List ℕ → ℕ → ℕ → ℕ → Result Message Refusal
cancel_resolved names trip date from to = do
  found ← train_on names trip date
  Ok (messages.Cancel found.train from to)

-- a rerouting; its times are those of the train's service day
unfoldable pub reroute_resolved : Names → List ℕ → ℕ → ℕ → ℕ → List WireCall
    → Result Message Refusal
reroute_resolved names trip date from to via = do
  found ← train_on names trip date
  calls ← new_calls names found.day via
  Ok (messages.Reroute found.train from to calls)

-- an extra train; its number is the number of trains so far
unfoldable pub extra_resolved : Names → List ℕ → ℕ → List ℕ → List WireCall → Result Message Refusal
extra_resolved names trip date route wire_calls = do
  day ← need refusals.Unknown (day_named names date)
  number ← need refusals.Unknown (route_named names route)
  calls ← new_calls names day wire_calls
  _ ← unless (is_none (train_named names trip day)) refusals.Known
  Ok (messages.Extra (length names.trains) day number calls)

-- a connection of a feeder's arrival and a train's departure
unfoldable pub connect_resolved : Names → AConnect → WireRef → WireRef → Result Message Refusal
connect_resolved names kind feeder train = do
  arrival ← node_named names false feeder
  departure ← node_named names true train
  Ok (connect_message kind arrival departure)

-- the message by number, or the refusal
unfoldable pub resolved : Names → Wire → Result Message Refusal
resolved names (Event kind trip date call dep secs) =
    event_resolved names kind trip date call dep secs
resolved names (Correct trip date call dep secs) =
    correct_resolved names trip date call dep secs
resolved names (Withdraw trip date call dep) = withdraw_resolved names trip date call dep
resolved names (Cancel trip date from to) = cancel_resolved names trip date from to
resolved names (Reroute trip date from to via) = reroute_resolved names trip date from to via
resolved names (Extra trip date route calls) = extra_resolved names trip date route calls
resolved names (Connect kind feeder train) = connect_resolved names kind feeder train
