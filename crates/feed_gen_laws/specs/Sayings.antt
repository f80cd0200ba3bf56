-- What the lines of the input for so many trains say.
use Rattle.std.specs.Prelude.{false, codes, Some}
use Rattle.feed_gen.specs.Lines.{InputLine, forecast, query, flush}
use Rattle.feed_gen.specs.Trains.{forecast_time, stop_name, stop_of, trip_name}
use Rattle.message_reader.specs.declared.wire.Line.{Line}
use Rattle.message_reader.specs.declared.wire.Line.TheVariants.{Message, Query, Flush}
use Rattle.message_reader.specs.declared.wire.Wire.TheVariants.{Event}
use Rattle.train_nodes.specs.declared.kinds.ValueKind.TheVariants.{Forecast}

-- a forecast says when a train arrives at its call 1, and a query asks, as the client `q`, for a
-- way along a train from its call 0 to its call 3, from 04:00:00 on. All are of 5 January 2026
abbrev pub saying : InputLine → Line
saying (forecast train) =
    Message (Event Forecast (trip_name train) 20260105 1 false (forecast_time train))
saying (query train) = Query (record {
  client = codes "q";
  from = stop_name (stop_of train 0);
  to = stop_name (stop_of train 3);
  time = Some (record { date = 20260105; secs = 14400 });
})
saying flush = Flush
