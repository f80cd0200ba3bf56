-- The lines of the input for so many trains.
use Rattle.std.specs.Prelude.{ℕ, zero, suc, ◌+◌, ◌-◌, ◌%◌, List, [], ◌∷◌, ◌++◌, Bool, ◌||◌, nat_eq, if◌then◌else◌, codes, drop, flat_map}
use Rattle.feed_gen.specs.Texts.{clock}
use Rattle.feed_gen.specs.Trains.{forecast_time, stop_name, stop_of, trip_name}

-- a line: a forecast for the arrival of a train at its call 1, a query for a way from the stop of a
-- train's call 0 to the stop of its call 3, or a flush
pub data InputLine : Type 0 where
  forecast : ℕ → InputLine
  query : ℕ → InputLine
  flush : InputLine

-- the bytes of a line, without its LF
unfoldable pub text_of : InputLine → List ℕ
text_of (forecast train) =
    codes "{\"v\":1,\"type\":\"forecast\",\"trip\":\"" ++ (trip_name train
    ++ (codes "\",\"date\":\"20260105\",\"call\":1,\"event\":\"arr\",\"time\":\""
    ++ (clock (forecast_time train) ++ codes "\"}")))
text_of (query train) =
    codes "{\"v\":1,\"type\":\"query\",\"client\":\"q\",\"from\":\""
    ++ (stop_name (stop_of train 0) ++ (codes "\",\"to\":\"" ++ (stop_name (stop_of train 3)
    ++ codes "\",\"date\":\"20260105\",\"time\":\"04:00:00\"}")))
text_of flush = codes "{\"v\":1,\"type\":\"flush\"}"

-- a group of forecasts ends with every hundredth train and with the last of all
abbrev pub ends_group : ℕ → ℕ → Bool
ends_group trains train = nat_eq (train % 100) 99 || nat_eq (train + 1) trains

-- the lines with a train: its forecast, and at the end of a group a query between two flushes
abbrev pub lines_with : ℕ → ℕ → List InputLine
lines_with trains train =
    if ends_group trains train then forecast train ∷ flush ∷ query train ∷ flush ∷ []
    else forecast train ∷ []

-- of so many trains the lines with `count` of them, from one on
unfoldable pub lines_from : ℕ → ℕ → ℕ → List InputLine
lines_from trains train zero = []
lines_from trains train (suc count) =
    lines_with trains train ++ lines_from trains (train + 1) count

-- all lines
abbrev pub lines : ℕ → List InputLine
lines trains = lines_from trains 0 trains

-- the bytes of lines, each with an LF behind it
abbrev pub joined : List InputLine → List ℕ
joined xs = flat_map (λ x. text_of x ++ codes "\n") xs

-- the bytes of the input
abbrev pub input : ℕ → List ℕ
input trains = joined (lines trains)

-- the bytes that are left to give: of those that are held the ones from a place on, and the lines
-- of the trains from `next` on
abbrev pub bytes_left : List ℕ → ℕ → ℕ → ℕ → List ℕ
bytes_left held at trains next = drop at held
    ++ joined (lines_from trains next (trains - next))
