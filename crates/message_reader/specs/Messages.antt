-- What an object says, by the type of its line. Every needed member has its kind (Shape) before any
-- date or time is read (Time).
use Rattle.std.specs.Prelude.{ℕ, suc, ◌<◌, ◌^◌, nat_le, List, [], ◌∷◌, Bool, Some, None, IfSome, option_map, Result, Ok, codes}
use Rattle.std.specs.declared.option.Option.{Option}
use Rattle.serde_json.specs.Data.{Data, Items, no_items, item}
use Rattle.serde_json.specs.Find.{get}
use Rattle.message_reader.specs.declared.bad_line.BadLine.{BadLine}
use Rattle.message_reader.specs.declared.bad_line.BadLine.TheVariants.{Shape, Time}
use Rattle.message_reader.specs.declared.wire.WireCall.{WireCall}
use Rattle.message_reader.specs.declared.wire.WireRef.{WireRef}
use Rattle.message_reader.specs.declared.wire.Connect.{Connect as AConnect}
use Rattle.train_nodes.specs.declared.kinds.ValueKind.{ValueKind}
use Rattle.message_reader.specs.declared.wire.Wire.{Wire}
use Rattle.message_reader.specs.declared.wire.Wire.TheVariants.{Event, Correct, Withdraw, Cancel, Reroute, Extra, Connect}
use Rattle.message_reader.specs.Chain.{◌>>=◌, need, unless}
use Rattle.mt_base.specs.Texts.{date_of, seconds_of}
use Rattle.message_reader.specs.Fields.{text_at, text_or_null_at, label_at, items_at, departure_of}

-- an event as an object names it: its train by `trip` and `date`, its call by the label `call`, and
-- by `event` whether it is the departure
pub record NamedEvent : Type 0 where
  pub trip : List ℕ
  pub date : List ℕ
  pub call : ℕ
  pub dep : Bool

unfoldable pub named_event : Data → Result NamedEvent BadLine
named_event d = do
  trip ← need Shape (text_at (codes "trip") d)
  date ← need Shape (text_at (codes "date") d)
  call ← need Shape (label_at (codes "call") d)
  event ← need Shape (text_at (codes "event") d)
  dep ← need Shape (departure_of event)
  Ok (record { trip = trip; date = date; call = call; dep = dep })

-- `forecast` and `report`: an event, and `time`
unfoldable pub event_of : ValueKind → Data → Result Wire BadLine
event_of kind d = do
  named ← named_event d
  time ← need Shape (text_at (codes "time") d)
  day ← need Time (date_of named.date)
  secs ← need Time (seconds_of time)
  Ok (Event kind named.trip day named.call named.dep secs)

-- the time of a text, or no time where there is no text
abbrev pub seconds_if_any : Option (List ℕ) → Option (Option ℕ)
seconds_if_any None = Some None
seconds_if_any (Some text) = option_map (λ secs. Some secs) (seconds_of text)

-- `correct`: an event, and `time`, which may be null
unfoldable pub correct_of : Data → Result Wire BadLine
correct_of d = do
  named ← named_event d
  time ← need Shape (text_or_null_at (codes "time") d)
  day ← need Time (date_of named.date)
  secs ← need Time (seconds_if_any time)
  Ok (Correct named.trip day named.call named.dep secs)

-- `withdraw`: an event
unfoldable pub withdraw_of : Data → Result Wire BadLine
withdraw_of d = do
  named ← named_event d
  day ← need Time (date_of named.date)
  Ok (Withdraw named.trip day named.call named.dep)

-- `cancel`: a train, and the labels `from` and `to` of two of its calls
unfoldable pub cancel_of : Data → Result Wire BadLine
cancel_of d = do
  trip ← need Shape (text_at (codes "trip") d)
  date ← need Shape (text_at (codes "date") d)
  from ← need Shape (label_at (codes "from") d)
  to ← need Shape (label_at (codes "to") d)
  day ← need Time (date_of date)
  Ok (Cancel trip day from to)

-- ---- keep, drop and rule

-- what an object that names a call of a train has: `trip` and `date`, and the label `call`
pub record RefTexts : Type 0 where
  pub trip : List ℕ
  pub date : List ℕ
  pub call : ℕ

unfoldable pub ref_texts : Data → Result RefTexts BadLine
ref_texts d = do
  trip ← need Shape (text_at (codes "trip") d)
  date ← need Shape (text_at (codes "date") d)
  call ← need Shape (label_at (codes "call") d)
  Ok (record { trip = trip; date = date; call = call })

-- the call that it names
unfoldable pub ref_of : RefTexts → Result WireRef BadLine
ref_of texts = do
  day ← need Time (date_of texts.date)
  Ok (record { trip = texts.trip; date = day; call = texts.call })

-- `keep`, `drop` and `rule`: two such objects, `feeder` and `train`
unfoldable pub connect_of : AConnect → Data → Result Wire BadLine
connect_of kind d = do
  feeder ← need Shape (get (codes "feeder") d)
  train ← need Shape (get (codes "train") d)
  feeder_texts ← ref_texts feeder
  train_texts ← ref_texts train
  feeder_ref ← ref_of feeder_texts
  train_ref ← ref_of train_texts
  Ok (Connect kind feeder_ref train_ref)

-- ---- reroute and extra

-- what an object that names a call of a list has: the texts `stop`, `arr` and `dep`
pub record CallTexts : Type 0 where
  pub stop : List ℕ
  pub arr : List ℕ
  pub dep : List ℕ

unfoldable pub call_texts : Data → Result CallTexts BadLine
call_texts d = do
  stop ← need Shape (text_at (codes "stop") d)
  arr ← need Shape (text_at (codes "arr") d)
  dep ← need Shape (text_at (codes "dep") d)
  Ok (record { stop = stop; arr = arr; dep = dep })

-- the call that it names
unfoldable pub call_of : Data → Result WireCall BadLine
call_of d = do
  texts ← call_texts d
  arr ← need Time (seconds_of texts.arr)
  dep ← need Time (seconds_of texts.dep)
  Ok (record { stop = texts.stop; arr = arr; dep = dep })

-- whether every item of a list is such an object
unfoldable pub calls_shape : Items → Result (Unit {0}) BadLine
calls_shape no_items = Ok tt
calls_shape (item d ds) = do
  _ ← call_texts d
  calls_shape ds

-- the calls of a list
unfoldable pub calls_of : Items → Result (List WireCall) BadLine
calls_of no_items = Ok []
calls_of (item d ds) = do
  call ← call_of d
  calls ← calls_of ds
  Ok (call ∷ calls)

-- how many items a list has
unfoldable pub count : Items → ℕ
count no_items = 0
count (item d ds) = suc (count ds)

-- each list that is a member of an object has fewer than 2^31 items
abbrev pub HasFewItems : Data → Type 0
HasFewItems d = (key : List ℕ) → IfSome (items_at key d) (λ items. count items < 2 ^ 31)

-- `reroute`: a train, the labels `from` and `to` of two of its calls, and `via`, a list of calls
-- that may be empty
unfoldable pub reroute_of : Data → Result Wire BadLine
reroute_of d = do
  trip ← need Shape (text_at (codes "trip") d)
  date ← need Shape (text_at (codes "date") d)
  from ← need Shape (label_at (codes "from") d)
  to ← need Shape (label_at (codes "to") d)
  via ← need Shape (items_at (codes "via") d)
  _ ← calls_shape via
  day ← need Time (date_of date)
  calls ← calls_of via
  Ok (Reroute trip day from to calls)

-- `extra`: a train that is not there yet, the text `route`, and `calls`, a list of at least two
-- calls
unfoldable pub extra_of : Data → Result Wire BadLine
extra_of d = do
  trip ← need Shape (text_at (codes "trip") d)
  date ← need Shape (text_at (codes "date") d)
  route ← need Shape (text_at (codes "route") d)
  items ← need Shape (items_at (codes "calls") d)
  _ ← calls_shape items
  _ ← unless (nat_le 2 (count items)) Shape
  day ← need Time (date_of date)
  calls ← calls_of items
  Ok (Extra trip day route calls)
