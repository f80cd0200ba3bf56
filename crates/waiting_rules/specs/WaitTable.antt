-- What a feed says of waits.
use Rattle.std.specs.Prelude.{ℕ, Bool, ◌&&◌, ◌||◌, List, Option, None, unwrap_or, slice_get, map}
use Rattle.std.specs.Prelude.{if◌then◌else◌}
use Rattle.std.specs.List.{list_any}
use Rattle.mt_base.specs.declared.tables.RuleRow.{RuleRow}
use Rattle.mt_base.specs.declared.tables.StopRow.{StopRow}
use Rattle.mt_base.specs.Places.{is_platform}
use Rattle.delay_model.specs.Waits.{is_empty_or}
use Rattle.waiting_rules.specs.Rules.{has_wait, makes_wait}

-- the parent station of a stop or platform; any other location has none (GTFS Schedule, stops.txt)
abbrev pub parent_station : StopRow → Option ℕ
parent_station row = if is_platform row.kind then row.parent else None

-- the station of a location, by the parent stations of all
abbrev pub station_in : List (Option ℕ) → ℕ → ℕ
station_in parents stop = unwrap_or (unwrap_or (slice_get parents stop) None) stop

-- the parent station of each location, where it has one, and the waiting rules in the order of
-- their file
pub record WaitTable : Type 0 where
  pub parents : List (Option ℕ)
  pub rules : List RuleRow

-- what these locations and rules say of waits
abbrev pub wait_table : List StopRow → List RuleRow → WaitTable
wait_table stops rules = record { parents = map parent_station stops; rules = rules }

-- some rule with a wait above 0 is for trains of a route at a stop or its station
abbrev pub some_waits : WaitTable → ℕ → ℕ → Bool
some_waits table route stop =
    list_any (λ rule. has_wait rule && makes_wait route stop (station_in table.parents stop) rule)
    table.rules

-- some rule with a wait above 0 is for a stop or its station
abbrev pub may_wait : WaitTable → ℕ → Bool
may_wait table stop =
    list_any (λ rule. has_wait rule
    && (is_empty_or rule.stop stop || is_empty_or rule.stop (station_in table.parents stop)))
    table.rules

-- the waits of trains of a route at a stop
pub record WaitsAt : Type 0 where
  pub table : WaitTable
  pub connecting : ℕ
  pub stop : ℕ
