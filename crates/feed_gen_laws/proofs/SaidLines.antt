-- What the lines of the input say.
use Rattle.std.proofs.Common.{◌≡◌, ◌<◌, ℕ, false, List, codes, Ok, Some, ap, ◌∙◌, inl, refl, arith, rules}
use Rattle.std.specs.Prelude.{decimal}
use Rattle.std.specs.Str.{chars, is_utf8}
use Rattle.json.specs.Json.{Json, member, no_members, number, object, string}
use Rattle.json.specs.Print.{ArePrintable, escape_byte, print_from}
use Rattle.json.specs.Word.{after_number}
use Rattle.serde_json.specs.Read.{of_json}
use Rattle.serde_json.proofs.OnLiterals.{serde_json_on_literals}
use Rattle.mt_base.specs.Civil.{IsCivil}
use Rattle.train_nodes.specs.declared.kinds.ValueKind.TheVariants.{Forecast}
use Rattle.message_reader.specs.declared.wire.Wire.{Wire}
use Rattle.message_reader.specs.declared.wire.Wire.TheVariants.{Event}
use Rattle.message_reader.specs.Kinds.{kind_of, has_version}
use Rattle.message_reader.specs.Lines.{head_of, line_of, message_of, said_by_value}
use Rattle.message_reader.specs.Spelled.{date_text, object_of, query_object, time_text}
use Rattle.message_reader.proofs.SpelledLemmas.{messages_back, queries_back}
use Rattle.feed_gen.specs.Lines.{InputLine, flush, forecast, query, text_of}
use Rattle.feed_gen.specs.Texts.{clock}
use Rattle.feed_gen.specs.Trains.{forecast_time, stop_name, stop_of, trip_name}
use Rattle.feed_gen_laws.specs.Sayings.{saying}
use Rattle.feed_gen_laws.proofs.Clocks.{clock-spelled}
use Rattle.feed_gen_laws.proofs.LineTexts.{line-said}
use Rattle.feed_gen_laws.proofs.PlainTexts.{plain-append, plain-clock, plain-decimal}

civil : IsCivil 20260105
civil = search rules

-- the object of a forecast
abbrev forecast_json : List ℕ → List ℕ → Json
forecast_json trip time =
    object (member (codes "v") (number (codes "1")) (member (codes "type") (string (codes "forecast")) (member (codes "trip") (string trip) (member (codes "date") (string (codes "20260105"))
    (member (codes "call") (number (codes "1")) (member (codes "event") (string (codes "arr")) (member (codes "time") (string time) no_members)))))))

forecast-data : (trip : List ℕ) (secs : ℕ) → of_json (forecast_json trip (time_text secs)) ≡ Some (object_of 1 (Event Forecast trip 20260105 1 false secs))
unfolding serde_json_on_literals date_text
forecast-data trip secs = refl

forecast-said : (train : ℕ) → line_of (text_of (forecast train)) ≡ Ok (saying (forecast train))
unfolding text_of escape_byte print_from ArePrintable after_number
forecast-said train =
    let trip = trip_name train in
    let secs = forecast_time train in
    let small : secs < 360000 = omega arith in
    let message : Wire = Event Forecast trip 20260105 1 false secs in
    line-said (codes "{\"v\":1,\"type\":\"forecast\",\"trip\":\"") trip (codes ",\"date\":\"20260105\",\"call\":1,\"event\":\"arr\",\"time\":\"") (clock secs) (codes "}")
    (plain-append (codes "G") (decimal train) refl (plain-decimal train)) (plain-clock secs) (forecast_json trip (clock secs)) (object_of 1 message) (saying (forecast train)) refl refl refl refl (search rules) (omega arith)
    (ap (λ time. of_json (forecast_json trip time)) (clock-spelled secs small) ∙ forecast-data trip secs)
    (messages_back 1 message (inl refl) (civil, omega arith) (omega arith))

-- the object of a query
abbrev query_json : List ℕ → List ℕ → Json
query_json from to =
    object (member (codes "v") (number (codes "1")) (member (codes "type") (string (codes "query")) (member (codes "client") (string (codes "q")) (member (codes "from") (string from)
    (member (codes "to") (string to) (member (codes "date") (string (codes "20260105")) (member (codes "time") (string (codes "04:00:00")) no_members)))))))

query-data : (from to : List ℕ) → of_json (query_json from to) ≡ Some (query_object 1 (codes "q") from to 20260105 14400)
unfolding serde_json_on_literals date_text time_text
query-data from to = refl

query-said : (train : ℕ) → line_of (text_of (query train)) ≡ Ok (saying (query train))
unfolding text_of escape_byte print_from ArePrintable after_number
query-said train =
    let from = stop_name (stop_of train 0) in
    let to = stop_name (stop_of train 3) in
    line-said (codes "{\"v\":1,\"type\":\"query\",\"client\":\"q\",\"from\":\"") from (codes ",\"to\":\"") to (codes ",\"date\":\"20260105\",\"time\":\"04:00:00\"}")
    (plain-append (codes "S") (decimal (stop_of train 0)) refl (plain-decimal (stop_of train 0))) (plain-append (codes "S") (decimal (stop_of train 3)) refl (plain-decimal (stop_of train 3))) (query_json from to) (query_object 1 (codes "q") from to 20260105 14400) (saying (query train)) refl refl refl refl (search rules)
    (omega arith) (query-data from to) (queries_back 1 (codes "q") from to 20260105 14400 (inl refl) civil (omega arith))

flush-said : line_of (text_of flush) ≡ Ok (saying flush)
unfolding text_of line_of said_by_value head_of message_of kind_of has_version is_utf8 chars serde_json_on_literals
flush-said = refl

pub lines-said : (x : InputLine) → line_of (text_of x) ≡ Ok (saying x)
lines-said (forecast train) = forecast-said train
lines-said (query train) = query-said train
lines-said flush = flush-said
