-- The query by number that a query by name stands for, or why the line that asks it is bad.
-- The causes, in order: `Stop`, the text `from` or `to` is no id of a stop, platform or station;
-- `Time`, the date is no civil date, the time is no time of day, or the date is not loaded.
use Rattle.std.specs.Prelude.{ℕ, ◌+◌, List, false, if◌then◌else◌, Some, None, option_and_then, Result, Ok}
use Rattle.std.specs.declared.option.Option.{Option}
use Rattle.std.specs.Option.{option_map_or}
use Rattle.mt_base.specs.Places.{is_platform_or_station}
use Rattle.schedule_build.specs.Directory.{Names, day_named, place_named, kind_of_place, base_of}
use Rattle.message_reader.specs.declared.bad_line.BadLine.{BadLine}
use Rattle.message_reader.specs.declared.bad_line.BadLine.TheVariants.{Stop, Time}
use Rattle.message_reader.specs.declared.resolve_queries.AskedQuery.{AskedQuery}
use Rattle.message_reader.specs.declared.wire.WireQuery.{WireQuery}
use Rattle.message_reader.specs.Chain.{◌>>=◌, need}

-- the place with an id, if a journey can begin or end there: it is a stop, a platform or a station
unfoldable pub stop_or_station_named : Names → List ℕ → Option ℕ
stop_or_station_named names id =
    option_and_then (λ place. if option_map_or is_platform_or_station
    (kind_of_place names place) false then Some place else None)
    (place_named names id)

-- the two places of a query are there
unfoldable pub query_places : Names → WireQuery → Result (Unit {0}) BadLine
query_places names q = do
  _ ← need Stop (stop_or_station_named names q.from)
  _ ← need Stop (stop_or_station_named names q.to)
  Ok tt

-- the query by number. Its date is that of a loaded service day, and its time lies on that day
unfoldable pub query_resolved : Names → WireQuery → Result AskedQuery BadLine
query_resolved names q = do
  from_stop ← need Stop (stop_or_station_named names q.from)
  to_stop ← need Stop (stop_or_station_named names q.to)
  time ← need Time q.time
  day ← need Time (day_named names time.date)
  Ok (record {
    day = day;
    query = record {
      from_stop = from_stop;
      to_stop = to_stop;
      time = base_of names day + time.secs;
    };
  })
