-- The table of times: a header, and a row for each live event.
use Rattle.std.specs.Prelude.{ℕ, zero, suc, ◌+◌, List, [], ◌∷◌, ◌++◌, codes, decimal, length, flat_map}
use Rattle.csv.specs.Writing.{default_writer, row_text}
use Rattle.mt_base.specs.declared.keys.Key.{Key}
use Rattle.delay_model.specs.declared.network.Network.{Network}
use Rattle.delay_model.specs.declared.state.State.{State}
use Rattle.delay_model.specs.declared.state.Event.{Event}
use Rattle.delay_model.specs.Events.{train_events, live_events}
use Rattle.delay_model.specs.Timing.{event_time}
use Rattle.schedule_build.specs.Directory.{Names, trip_of_train, id_of_place}
use Rattle.delay_report.specs.Replies.{event_word}
use Rattle.delay_report.specs.Trains.{date_of_train, clock_of_train}

-- a row as csv writes it: quotes only where they are needed, and an LF at its end
abbrev pub row : List (List ℕ) → List ℕ
row fields = row_text default_writer fields

-- the first line
unfoldable pub header : List ℕ
header = row (codes "trip" ∷ codes "date" ∷ codes "call" ∷ codes "stop" ∷ codes "event"
    ∷ codes "scheduled" ∷ codes "time" ∷ [])

-- the fields of an event's row, by the times of events: trip, date, call, stop, event, scheduled
-- and time
abbrev pub fields : Names → (Key → ℕ) → Event → List (List ℕ)
fields names times v =
    trip_of_train names v.key.train ∷ date_of_train names v.key.train ∷ decimal v.key.label
    ∷ id_of_place names v.stop ∷ event_word v.key.dep
    ∷ clock_of_train names v.key.train v.key.time ∷ clock_of_train names v.key.train
    (times v.key) ∷ []

-- the rows of the live ones among these events
unfoldable pub rows_of_events : Names → (Key → ℕ) → List Event → List ℕ
rows_of_events names times vs = flat_map (λ v. row (fields names times v)) (live_events vs)

-- the rows of a train; none where there is no such train
abbrev pub rows_of_train : Names → Network → State → ℕ → List ℕ
rows_of_train names nw st train = rows_of_events names (event_time nw st) (train_events st train)

-- the rows of so many trains, from one on
unfoldable pub rows_from : Names → Network → State → ℕ → ℕ → List ℕ
rows_from names nw st train zero = []
rows_from names nw st train (suc count) = rows_of_train names nw st train
    ++ rows_from names nw st (train + 1) count

-- the whole table: the header, and the rows of all trains by number
unfoldable pub table : Network → Names → State → List ℕ
table nw names st = header ++ rows_from names nw st 0 (length st.trains)
