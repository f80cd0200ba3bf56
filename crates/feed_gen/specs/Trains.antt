-- The trains, which are numbered from 0: their names, and the stops and times of their calls. Each
-- train has four calls, which are numbered from 0. Times are seconds from the beginning of the day.
use Rattle.std.specs.Prelude.{ℕ, ◌+◌, ◌*◌, ◌%◌, List, ◌++◌, codes, decimal}

-- the name of a stop: `S` and its number
abbrev pub stop_name : ℕ → List ℕ
stop_name stop = codes "S" ++ decimal stop

-- the name of a train's trip: `G` and the number of the train
abbrev pub trip_name : ℕ → List ℕ
trip_name train = codes "G" ++ decimal train

-- the number of the stop of a call: one of 100
abbrev pub stop_of : ℕ → ℕ → ℕ
stop_of train call = (7 * train + 10 * call) % 100

-- when a train is to arrive at a call
abbrev pub arrival : ℕ → ℕ → ℕ
arrival train call = 14400 + 60 * (train % 1200) + 660 * call

-- when it is to depart from there: a minute later
abbrev pub departure : ℕ → ℕ → ℕ
departure train call = arrival train call + 60

-- when the forecast for a train says that it arrives at call 1: at most 15 minutes late
abbrev pub forecast_time : ℕ → ℕ
forecast_time train = arrival train 1 + 60 * ((train + 1) % 16)
