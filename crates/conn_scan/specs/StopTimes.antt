-- A time for each stop.
use Rattle.std.specs.Prelude.{ℕ, ◌≤◌, List, Bool, true, false, ◌&&◌, nat_le, nat_lt, if◌then◌else◌, Option, Some, None, get_or, map, All}
use Rattle.std.specs.Option.{option_map_or}
use Rattle.conn_scan.specs.declared.stop_times.StopTimes.TheInside.{Inside}

-- the least number of seconds that is no time: 2^25
abbrev pub never : ℕ
never = 33554432

-- the time that stands in a row, if it is one
abbrev pub row_time : ℕ → Option ℕ
row_time row = if nat_lt row never then Some row else None

abbrev pub seen : Inside → List (Option ℕ)
seen s = map row_time s.rows.items

abbrev pub AreTimes : Inside → Type 0
AreTimes s = All (λ row. row ≤ never) s.rows.items

-- the time of stop b
abbrev pub time_at : List (Option ℕ) → ℕ → Option ℕ
time_at list b = get_or list b None

-- stop b has a time, which is not after t
abbrev pub is_by : List (Option ℕ) → ℕ → ℕ → Bool
is_by list b t = option_map_or (λ s. nat_le s t) (time_at list b) false

-- t is a time, and one that is earlier than that of stop b where it has one
abbrev pub is_earlier : List (Option ℕ) → ℕ → ℕ → Bool
is_earlier list b t = nat_lt t never && option_map_or (λ s. nat_lt t s) (time_at list b) true
