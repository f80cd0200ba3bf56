-- What the object of a query says.
use Rattle.std.specs.Prelude.{ℕ, List, Some, option_and_then, Result, Ok, codes}
use Rattle.std.specs.declared.option.Option.{Option}
use Rattle.serde_json.specs.Data.{Data}
use Rattle.message_reader.specs.declared.bad_line.BadLine.{BadLine}
use Rattle.message_reader.specs.declared.bad_line.BadLine.TheVariants.{Shape}
use Rattle.message_reader.specs.declared.wire.WireQuery.{WireQuery}
use Rattle.message_reader.specs.declared.wire.WireTime.{WireTime}
use Rattle.message_reader.specs.Chain.{◌>>=◌, need}
use Rattle.mt_base.specs.Texts.{date_of, seconds_of}
use Rattle.message_reader.specs.Fields.{text_at}

-- the service day and the time of day of two texts, if the one is eight digits that name a civil
-- date, and the other is H:MM:SS or HH:MM:SS
unfoldable pub wire_time_of : List ℕ → List ℕ → Option WireTime
wire_time_of date time =
    option_and_then (λ civil. option_and_then (λ secs. Some (record { date = civil; secs = secs }))
    (seconds_of time)) (date_of date)

-- `query`: who asks, `client`; two places, `from` and `to`; and `date` and `time`, from when on the
-- passenger can leave. Whether these two are a date and a time of day is not asked here, since a
-- place that is not there counts first
unfoldable pub query_of : Data → Result WireQuery BadLine
query_of d = do
  client ← need Shape (text_at (codes "client") d)
  from ← need Shape (text_at (codes "from") d)
  to ← need Shape (text_at (codes "to") d)
  date ← need Shape (text_at (codes "date") d)
  time ← need Shape (text_at (codes "time") d)
  Ok (record { client = client; from = from; to = to; time = wire_time_of date time })
