-- What the rows of `transfers.txt` mean, or the first fault in them.
use Rattle.std.specs.Prelude.{ℕ, ◌+◌, ◌==◌, ◌&&◌, List, [], ◌∷◌, ◌++◌, Bool, true, length, Some, None, Result, Ok, option_map}
use Rattle.std.specs.declared.option.Option.{Option}
use Rattle.mt_base.specs.declared.tables.TransferRow.{TransferRow}
use Rattle.gtfs_tables.specs.declared.columns.Column.{Column}
use Rattle.gtfs_tables.specs.declared.columns.Column.TheVariants.{FromStopId, ToStopId, TransferType, MinTransferTime, FromRouteId, ToRouteId, FromTripId, ToTripId}
use Rattle.gtfs_tables.specs.declared.faults.Cause.TheVariants.{BadNumber, UnknownReference}
use Rattle.gtfs_tables.specs.declared.faults.Fault.{Fault}
use Rattle.gtfs_tables.specs.Checks.{Step, fault, need, table_from, ◌>>=◌}
use Rattle.gtfs_tables.specs.Fields.{number_of, number_or_zero}
use Rattle.gtfs_tables.specs.Numbers.{number_from}

-- the columns that the table needs, in the order of their checks
abbrev pub needed_transfer_columns : List Column
needed_transfer_columns = FromStopId ∷ ToStopId ∷ TransferType ∷ []

-- the columns that it may have, in the order of their checks
abbrev pub other_transfer_columns : List Column
other_transfer_columns = MinTransferTime ∷ FromRouteId ∷ ToRouteId ∷ FromTripId ∷ ToTripId ∷ []

-- the stop of an id, by the ids of stops.txt: no stop where the field is empty
abbrev pub stop_of : List (List ℕ) → List ℕ → Option (Option ℕ)
stop_of stops [] = Some None
stop_of stops (byte ∷ bytes) = option_map (λ stop. Some stop) (number_from 0 (byte ∷ bytes) stops)

-- a number of one to nine digits, or none where the field is empty
abbrev pub number_if_any : List ℕ → Option (Option ℕ)
number_if_any [] = Some None
number_if_any (byte ∷ bytes) = option_map (λ n. Some n) (number_of (byte ∷ bytes))

-- the row is for all routes and trips
abbrev pub is_for_all : List ℕ → List ℕ → List ℕ → List ℕ → Bool
is_for_all from_route to_route from_trip to_trip =
    (length from_route == 0) && (length to_route == 0) && (length from_trip == 0)
    && (length to_trip == 0)

-- the change between two stops, with its transfer_type and its min_transfer_time in seconds: none
-- where the row does not give both stops, or is not for all routes and trips
abbrev pub listed : Option ℕ → Option ℕ → ℕ → Option ℕ → Bool → Option TransferRow
listed (Some from_stop) (Some to_stop) kind seconds true = Some (record {
  from_stop = from_stop;
  to_stop = to_stop;
  kind = kind;
  seconds = seconds;
})
listed from_stop to_stop kind seconds for_all = None

-- the change from the fields of its row, or the first fault in them
unfoldable pub transfer_of : List (List ℕ) → ℕ → List ℕ → List ℕ → List ℕ → List ℕ → Bool
    → Result (Option TransferRow) Fault
transfer_of stops row from_id to_id transfer_type least for_all = do
  from_stop ← need (fault row UnknownReference) (stop_of stops from_id)
  to_stop ← need (fault row UnknownReference) (stop_of stops to_id)
  kind ← need (fault row BadNumber) (number_or_zero transfer_type)
  seconds ← need (fault row BadNumber) (number_if_any least)
  Ok (listed from_stop to_stop kind seconds for_all)

-- what the rows so far made: the changes that are listed, and how many rows there were in all
pub record Transfers : Type 0 where
  pub rows : List TransferRow
  pub count : ℕ

-- the transfers after one row more, which may have no change to list
abbrev pub with_transfer : Option TransferRow → Transfers → Transfers
with_transfer None s = record { rows = s.rows; count = s.count + 1 }
with_transfer (Some t) s = record { rows = s.rows ++ t ∷ []; count = s.count + 1 }

-- what a row makes of the transfers so far, by the ids of stops.txt
abbrev pub transfer_step : List (List ℕ) → Step Transfers
transfer_step stops row field s =
    transfer_of stops row (field FromStopId) (field ToStopId) (field TransferType)
    (field MinTransferTime)
    (is_for_all (field FromRouteId) (field ToRouteId) (field FromTripId) (field ToTripId))
    >>= λ t. Ok (with_transfer t s)

-- the table, by the ids of stops.txt and all its records
abbrev pub transfers_of : List (List ℕ) → List (List (List ℕ)) → Result Transfers Fault
transfers_of stops all = table_from needed_transfer_columns (transfer_step stops)
    (record { rows = []; count = 0 }) all
