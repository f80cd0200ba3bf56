-- What a line says, or its first fault. A line is one object of JSON, as these four, of which the
-- last is broken here:
-- {"v":1,"type":"forecast","trip":"T1","date":"20260105","call":1,"event":"arr","time":"08:36:00"}
-- {"v":2,"type":"withdraw","trip":"T1","date":"20260105","call":1,"event":"arr"}
-- {"v":1,"type":"query","client":"c1","from":"A","to":"D","date":"20260105","time":"08:00:00"}
-- {"v":1,"type":"keep","feeder":{"trip":"T1","date":"20260105","call":1},
--   "train":{"trip":"T2","date":"20260105","call":0}}
-- Members that are not named here are passed over, and of two members of one name the last counts.
-- The faults, in order: `Utf8`, the bytes are no text; `Json`, the text is no JSON, or nests deeper
-- than `serde_json` reads; `Shape`, the value is no object with a version `v` and a `type` of that
-- version, or a member that its type needs is absent or of another kind; `Time`, a date of a
-- message is not eight digits that name a civil date, or a time of it is neither H:MM:SS nor
-- HH:MM:SS; a null time of a correction is no fault. The places, the date and the time of a query
-- are asked for when it is resolved. A `Long` line does not come here.
use Rattle.std.specs.Prelude.{ℕ, List, if◌then◌else◌, Some, None, Result, Ok, Err, codes}
use Rattle.std.specs.declared.option.Option.{Option}
use Rattle.std.specs.Str.{is_utf8}
use Rattle.serde_json.specs.Data.{Data}
use Rattle.serde_json.specs.Read.{read}
use Rattle.message_reader.specs.declared.bad_line.BadLine.{BadLine}
use Rattle.message_reader.specs.declared.bad_line.BadLine.TheVariants.{Utf8, Json, Shape}
use Rattle.message_reader.specs.declared.kinds.Kind.{Kind}
use Rattle.message_reader.specs.declared.kinds.Kind.TheVariants as kinds
use Rattle.message_reader.specs.declared.wire.Connect.TheVariants as connects
use Rattle.message_reader.specs.declared.wire.Line.{Line}
use Rattle.message_reader.specs.declared.wire.Line.TheVariants.{Message, Query, Flush}
use Rattle.message_reader.specs.declared.wire.Wire.{Wire}
use Rattle.message_reader.specs.Chain.{◌>>=◌, need, unless}
use Rattle.message_reader.specs.Fields.{text_at, number_at}
use Rattle.train_nodes.specs.declared.kinds.ValueKind.TheVariants as values
use Rattle.message_reader.specs.Kinds.{kind_of, has_version}
use Rattle.message_reader.specs.Messages.{event_of, correct_of, withdraw_of, cancel_of, reroute_of, extra_of, connect_of}
use Rattle.message_reader.specs.Queries.{query_of}

-- the bytes are a text in UTF-8
abbrev pub utf8_of : List ℕ → Result (List ℕ) BadLine
utf8_of bytes = if is_utf8 bytes then Ok bytes else Err Utf8

-- the text is a value of JSON
abbrev pub json_of : List ℕ → Result Data BadLine
json_of text = need Json (read text)

-- the value of a line
unfoldable pub value_of : List ℕ → Result Data BadLine
value_of bytes = do
  text ← utf8_of bytes
  json_of text

-- the object has `v`, the whole number 1 or 2, and `type`, the name of a type of line that this
-- version has
unfoldable pub head_of : Data → Result Kind BadLine
head_of d = do
  v ← need Shape (number_at (codes "v") d)
  name ← need Shape (text_at (codes "type") d)
  kind ← need Shape (kind_of name)
  _ ← unless (has_version kind v) Shape
  Ok kind

-- what an object says, by the type of its line
unfoldable pub message_of : Kind → Data → Result Line BadLine
message_of kinds.Forecast d = event_of values.Forecast d >>= λ w. Ok (Message w)
message_of kinds.Report d = event_of values.Report d >>= λ w. Ok (Message w)
message_of kinds.Correct d = correct_of d >>= λ w. Ok (Message w)
message_of kinds.Withdraw d = withdraw_of d >>= λ w. Ok (Message w)
message_of kinds.Cancel d = cancel_of d >>= λ w. Ok (Message w)
message_of kinds.Reroute d = reroute_of d >>= λ w. Ok (Message w)
message_of kinds.Extra d = extra_of d >>= λ w. Ok (Message w)
message_of kinds.Keep d = connect_of connects.Keep d >>= λ w. Ok (Message w)
message_of kinds.Drop d = connect_of connects.Drop d >>= λ w. Ok (Message w)
message_of kinds.Rule d = connect_of connects.Rule d >>= λ w. Ok (Message w)
message_of kinds.Query d = query_of d >>= λ q. Ok (Query q)
message_of kinds.Flush d = Ok Flush

-- what the value of a line says
unfoldable pub said_by_value : Data → Result Line BadLine
said_by_value d = do
  kind ← head_of d
  message_of kind d

-- what the text of a line says
abbrev pub line_of_text : List ℕ → Result Line BadLine
line_of_text text = json_of text >>= said_by_value

-- what the line says, or the first fault that holds
unfoldable pub line_of : List ℕ → Result Line BadLine
line_of bytes = do
  text ← utf8_of bytes
  d ← json_of text
  said_by_value d

-- the message, if one is said
abbrev pub message_in : Result Line BadLine → Option Wire
message_in (Ok (Message w)) = Some w
message_in (Ok (Query q)) = None
message_in (Ok Flush) = None
message_in (Err bad) = None
