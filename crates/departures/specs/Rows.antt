-- The rows of a board, of departures as a scan comes to them.
use Rattle.std.specs.Prelude.{◌≡◌, ℕ, ◌≤◌, ◌<◌, List, Bool, true, ◌&&◌, if◌then◌else◌, Option, None, nat_eq, nat_lt, length}
use Rattle.std.specs.Option.{option_map}
use Rattle.mt_base.specs.declared.keys.Key.{Key}
use Rattle.mt_base.specs.declared.tables.StopRow.{StopRow}
use Rattle.delay_model.specs.declared.network.Network.{Network}
use Rattle.delay_model.specs.declared.state.State.{State}
use Rattle.delay_model.specs.Changes.{station}
use Rattle.delay_model.specs.Cuts.{after}
use Rattle.delay_model.specs.Effect.{is_call}
use Rattle.delay_model.specs.Events.{calls_of}
use Rattle.dep_order.specs.declared.departure.Departure.{Departure}
use Rattle.dep_order.specs.declared.departure.Leaving.{Leaving}
use Rattle.dep_order.specs.Departing.{held}
use Rattle.dep_order.specs.Ordered.{Ordered}
use Rattle.timetable.specs.Departures.{stop_of}
use Rattle.board_laws.specs.declared.rows.BoardRow.{BoardRow}
use Rattle.board_laws.specs.Boards.{goes_to}
use Rattle.departures.specs.declared.boards.StationStops.{StationStops}

-- the stop of the last call that a train reaches from its departure of this key
abbrev pub goes_from : State → Key → ℕ
goes_from st k = goes_to (stop_of st k) (after (is_call k.label) (calls_of st k.train))

-- the stop is one of this station. The number past all stops, where nobody may board, is of none
abbrev pub is_of_station : Network → ℕ → ℕ → Bool
is_of_station nw here stop = nat_lt stop (length nw.stops) && nat_eq here (station nw.stops stop)

-- of the first n stops, those of this station lie between two numbers, both included. Where the
-- first number is not past the last, the last is below n
pub record LieBetween (stops : List StopRow) (here first last n : ℕ) : Type 0 where
  pub lie : (stop : ℕ) → stop < n → nat_eq here (station stops stop) ≡ true
      → (first ≤ stop) × (stop ≤ last)
  pub below : first ≤ last → last < n

-- the stops of the station lie between these two numbers
abbrev pub AreStopsOf : Network → StationStops → Type 0
AreStopsOf nw here = LieBetween nw.stops here.station here.first here.last (length nw.stops)

-- the row of a departure, as a scan comes to it
abbrev pub row_by : State → Leaving → Departure → BoardRow
row_by st x d =
    record { event = d.key; time = x.time; stop = x.stop; to = goes_from st d.key }

-- the row of the departure of a number, where passengers may board it at this station
abbrev pub row_at : Network → State → Ordered → ℕ → Leaving → Option BoardRow
row_at nw st o here x =
    if is_of_station nw here x.stop then option_map (row_by st x) (held o.entries x.number)
    else None
