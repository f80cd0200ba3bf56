-- What the rows of `waiting_rules.txt` mean, or the first fault in them.
use Rattle.std.specs.Prelude.{ℕ, List, [], ◌∷◌, ◌++◌, Bool, false, if◌then◌else◌, Some, None, Result, Ok, slice_get, option_and_then}
use Rattle.std.specs.Option.{option_map_or}
use Rattle.std.specs.declared.option.Option.{Option}
use Rattle.mt_base.specs.declared.tables.RuleRow.{RuleRow}
use Rattle.mt_base.specs.declared.tables.StopRow.{StopRow}
use Rattle.mt_base.specs.Places.{is_platform_or_station}
use Rattle.gtfs_tables.specs.declared.columns.Column.{Column}
use Rattle.gtfs_tables.specs.declared.columns.Column.TheVariants.{FeederRouteId, ConnectingRouteId, StopId, MaxWait}
use Rattle.gtfs_tables.specs.declared.faults.Cause.TheVariants.{BadNumber, UnknownReference}
use Rattle.gtfs_tables.specs.declared.faults.Fault.{Fault}
use Rattle.gtfs_tables.specs.Checks.{Step, fault, need, table_from, ◌>>=◌}
use Rattle.mt_base.specs.Texts.{below}
use Rattle.gtfs_tables.specs.Fields.{number_of}
use Rattle.gtfs_tables.specs.Numbers.{number_from, number_in, names_with}
use Rattle.gtfs_tables.specs.Stops.{stop_ids}

-- the columns that the table needs, in the order of their checks
abbrev pub rule_columns : List Column
rule_columns = FeederRouteId ∷ ConnectingRouteId ∷ StopId ∷ MaxWait ∷ []

-- the location of a number is a stop, a platform or a station
abbrev pub is_stop_or_station : List StopRow → ℕ → Bool
is_stop_or_station stops n = option_map_or (λ (row : StopRow). is_platform_or_station row.kind)
    (slice_get stops n) false

-- where a train waits: at any place where the field is empty, else at the stop, platform or station
-- with this id
abbrev pub waiting_place : List StopRow → List ℕ → Option (Option ℕ)
waiting_place stops [] = Some None
waiting_place stops (byte ∷ bytes) =
    option_and_then (λ n. if is_stop_or_station stops n then Some (Some n) else None)
    (number_from 0 (byte ∷ bytes) (stop_ids stops))

-- a longest wait: a number of one to nine digits that is at most 86,400 seconds
abbrev pub wait_of : List ℕ → Option ℕ
wait_of bytes = option_and_then (below 86401) (number_of bytes)

-- the number of a route: none where the field is empty, for any route
abbrev pub route_in : List ℕ → List (List ℕ) → Option ℕ
route_in [] routes = None
route_in (byte ∷ bytes) routes = Some (number_in (byte ∷ bytes) routes)

-- the names of the routes after one more field with a route
abbrev pub routes_with : List ℕ → List (List ℕ) → List (List ℕ)
routes_with [] routes = routes
routes_with (byte ∷ bytes) routes = names_with (byte ∷ bytes) routes

-- what the rows so far made: the names of the routes, by number, and the rows
pub record Rules : Type 0 where
  pub routes : List (List ℕ)
  pub rows : List RuleRow

-- the rules with one row more, whose routes are numbered on: the feeder's first
abbrev pub with_rule : List ℕ → List ℕ → Option ℕ → ℕ → Rules → Rules
with_rule feeder connecting place longest s =
    let routes = routes_with feeder s.routes in
    record {
      routes = routes_with connecting routes;
      rows = s.rows ++ record {
        feeder = route_in feeder s.routes;
        connecting = route_in connecting routes;
        stop = place;
        max_wait = longest;
      } ∷ [];
    }

-- what a row makes of the rules so far, by the rows of stops.txt
abbrev pub rule_step : List StopRow → Step Rules
rule_step stops row field s = do
  place ← need (fault row UnknownReference) (waiting_place stops (field StopId))
  longest ← need (fault row BadNumber) (wait_of (field MaxWait))
  Ok (with_rule (field FeederRouteId) (field ConnectingRouteId) place longest s)

-- the table, by the rows of stops.txt and all its records: routes are numbered on from the names
-- that earlier tables gave
abbrev pub waiting_rules_of : List StopRow → List (List ℕ) → List (List (List ℕ))
    → Result Rules Fault
waiting_rules_of stops names all = table_from rule_columns (rule_step stops)
    (record { routes = names; rows = [] }) all
