-- Which stops a change leads to, and from which it comes.
use Rattle.std.specs.Prelude.{ℕ, List, [], Option, None, if◌then◌else◌, length}
use Rattle.std.specs.List.{filter, filter_map, range_with_len, sum_by}
use Rattle.std.specs.Option.{option_map}
use Rattle.delay_model.specs.Changes.{is_stop, is_stop_or_station, change}
use Rattle.change_times.specs.declared.change.Change.{Change}
use Rattle.change_times.specs.ChangeTables.{ChangeTables}

-- the numbers of all locations
abbrev pub places : ChangeTables → List ℕ
places t = range_with_len 0 (length t.stops)

-- the stop b with its seconds, if b is a stop or platform to which one can change from a
abbrev pub change_to : ChangeTables → ℕ → ℕ → Option Change
change_to t a b =
    if is_stop t.stops b then option_map (λ s. record { stop = b; seconds = s })
    (change t.stops t.transfers t.default a b) else None

-- the stop a with its seconds, if a is a stop or platform from which one can change to b
abbrev pub change_from : ChangeTables → ℕ → ℕ → Option Change
change_from t b a =
    if is_stop t.stops a then option_map (λ s. record { stop = a; seconds = s })
    (change t.stops t.transfers t.default a b) else None

-- the stops to which one can change from a, by number
unfoldable pub reached : ChangeTables → ℕ → List Change
reached t a = filter_map (change_to t a) (places t)

-- the stops from which one can change to b, by number, if b is a stop or platform; of any other
-- location none
unfoldable pub reached_back : ChangeTables → ℕ → List Change
reached_back t b = if is_stop t.stops b then filter_map (change_from t b) (places t) else []

-- how many pairs of a stop or station and a stop to which one can change from it
unfoldable pub pairs : ChangeTables → ℕ
pairs t = sum_by (λ a. length (reached t a)) (filter (is_stop_or_station t.stops) (places t))
