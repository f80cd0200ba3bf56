-- What the object of a question says, and what it asks by number.
use Rattle.std.specs.Prelude.{ℕ, ◌+◌, ◌≤◌, ◌&&◌, nat_le, if◌then◌else◌, IfSome, Some, None, Result, Ok, codes}
use Rattle.std.specs.declared.option.Option.{Option}
use Rattle.mt_base.specs.Texts.{date_of}
use Rattle.serde_json.specs.Data.{Data}
use Rattle.schedule_build.specs.Directory.{Names, base_of, day_named}
use Rattle.message_reader.specs.declared.bad_line.BadLine.{BadLine}
use Rattle.message_reader.specs.declared.bad_line.BadLine.TheVariants.{Shape, Stop, Time}
use Rattle.message_reader.specs.Chain.{◌>>=◌, need}
use Rattle.message_reader.specs.Fields.{departure_of, label_at, number_at, text_at}
use Rattle.message_reader.specs.Queries.{wire_time_of}
use Rattle.message_reader.specs.ResolvedQueries.{stop_or_station_named}
use Rattle.message_reader.specs.Wires.{IsWireTime}
use Rattle.desk_lines.specs.declared.asked.WireDepartures.{WireDepartures}
use Rattle.desk_lines.specs.declared.asked.WireEvent.{WireEvent}
use Rattle.desk_lines.specs.declared.resolved.AskedDepartures.{AskedDepartures}

-- a number of rows, from 1 to 100
abbrev pub rows_in : ℕ → Option ℕ
rows_in n = if nat_le 1 n && nat_le n 100 then Some n else None

-- `departures`: who asks, `client`; a place, `stop`; `date` and `time`, from when on; and `rows`, how
-- many departures at most. Whether date and time are a date and a time of day is not asked here,
-- since a place that is not there counts first
unfoldable pub departures_of : Data → Result WireDepartures BadLine
departures_of d = do
  _ ← need Shape (text_at (codes "client") d)
  stop ← need Shape (text_at (codes "stop") d)
  date ← need Shape (text_at (codes "date") d)
  time ← need Shape (text_at (codes "time") d)
  number ← need Shape (number_at (codes "rows") d)
  rows ← need Shape (rows_in number)
  Ok (record { stop = stop; time = wire_time_of date time; rows = rows })

-- `why`: an event, by its train's `trip` and `date`, the label `call`, and `event`, whether it is the
-- departure
unfoldable pub event_of : Data → Result WireEvent BadLine
event_of d = do
  trip ← need Shape (text_at (codes "trip") d)
  date ← need Shape (text_at (codes "date") d)
  call ← need Shape (label_at (codes "call") d)
  event ← need Shape (text_at (codes "event") d)
  dep ← need Shape (departure_of event)
  day ← need Time (date_of date)
  Ok (record { call = record { trip = trip; date = day; call = call }; dep = dep })

-- the date is civil and the time of day at most 99:59:59, where the question has them, and at most
-- 100 rows are asked for
pub record AreWireDepartures (w : WireDepartures) : Type 0 where
  pub time : IfSome w.time IsWireTime
  pub rows : w.rows ≤ 100

-- the question by number. Its date is that of a loaded service day, and its time lies on that day
unfoldable pub departures_resolved : Names → WireDepartures → Result AskedDepartures BadLine
departures_resolved names w = do
  place ← need Stop (stop_or_station_named names w.stop)
  time ← need Time w.time
  day ← need Time (day_named names time.date)
  Ok (record { place = place; since = base_of names day + time.secs; rows = w.rows })
