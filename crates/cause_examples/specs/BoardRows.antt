-- Rows of a board, to be written in a line, and a timetable over midnight.
use Rattle.std.specs.Prelude.{ℕ, true, [], ◌∷◌}
use Rattle.delay_model.specs.declared.state.State.{State}
use Rattle.board_laws.specs.declared.rows.BoardRow.{BoardRow}
use Rattle.model_examples.specs.TwoTrains.{clock, opts, regular, start}

-- the departure that is scheduled then, of this train and label, at its time, from a stop to a stop
abbrev pub departs : ℕ → ℕ → ℕ → ℕ → ℕ → ℕ → BoardRow
departs scheduled train label time stop to =
    record {
      event = record { time = scheduled; train = train; label = label; dep = true };
      time = time;
      stop = stop;
      to = to;
    }

-- two trains that run alike, the first before midnight and the second on the next day, a quarter of
-- an hour later
abbrev pub over_midnight : State
over_midnight = record (start opts) {
  trains = regular (clock 23 50 0)
      ∷ record (regular (clock 24 5 0)) { day = 1 } ∷ [];
}
