-- Trains as the timetable gives them.
use Rattle.std.specs.Prelude.{ℕ, ◌+◌, ◌-◌, ◌≤◌, List, [], ◌∷◌, ◌++◌, Bool, true, not, nat_eq, nat_lt, None, length}
use Rattle.mt_base.specs.declared.new_calls.NewCall.{NewCall}
use Rattle.delay_model.specs.declared.state.EventValues.{EventValues}
use Rattle.delay_model.specs.declared.state.Call.{Call}
use Rattle.delay_model.specs.declared.state.Train.{Train}
use Rattle.delay_model.specs.declared.state.State.{State}
use Rattle.delay_model.specs.Effect.{new_event, begin_run, end_run}
use Rattle.call_lines.specs.declared.calls.TableCall.{TableCall}

-- a call of the timetable, under a label
abbrev pub table_call : ℕ → TableCall → Call
table_call label c =
    record {
      label = label;
      stop = c.stop;
      arrival = new_event c.arr;
      departure = new_event c.dep;
      board = c.board;
      alight = c.alight;
    }

-- calls of the timetable, labelled from `label` on in their order
abbrev pub table_calls : ℕ → List TableCall → List Call
table_calls label [] = []
table_calls label (c ∷ cs) = table_call label c ∷ table_calls (label + 1) cs

-- a train of the timetable: its calls are labelled 0, 1, .., and all events are live but the
-- arrival of the first call and the departure of the last
abbrev pub loaded_train : ℕ → ℕ → List TableCall → Train
loaded_train day route calls =
    record {
      day = day;
      route = route;
      next_label = length calls;
      calls = begin_run (end_run (table_calls 0 calls));
    }

-- one more train, which takes a spare train and a spare call for each of its calls
abbrev pub with_train : Train → State → State
with_train t st =
    record st {
      trains = st.trains ++ t ∷ [];
      spare_trains = st.spare_trains - 1;
      spare_calls = st.spare_calls - length t.calls;
    }

-- a call of an extra train, as the timetable would have it
abbrev pub by_table : NewCall → TableCall
by_table c = record { stop = c.stop; arr = c.arr; dep = c.dep; board = true; alight = true }

-- no scheduled time is before the one before it, nor before `time`
abbrev pub DoNotFallFrom : ℕ → List TableCall → Type 0
DoNotFallFrom time [] = Unit {0}
DoNotFallFrom time (c ∷ cs) = (time ≤ c.arr) × (c.arr ≤ c.dep) × DoNotFallFrom c.dep cs

-- the scheduled times do not fall along these calls
abbrev pub DoNotFall : List TableCall → Type 0
DoNotFall cs = DoNotFallFrom 0 cs

-- an event of the timetable
abbrev pub event_by_table : ℕ → Bool → EventValues
event_by_table scheduled live = record {
  scheduled = scheduled;
  live = live;
  forecast = None;
  report = None;
}

-- the call at a place among so many: the arrival of the first and the departure of the last are not
-- live
abbrev pub call_at : ℕ → ℕ → TableCall → Call
call_at count place c =
    record {
      label = place;
      stop = c.stop;
      arrival = event_by_table c.arr (not (nat_eq place 0));
      departure = event_by_table c.dep (nat_lt (place + 1) count);
      board = c.board;
      alight = c.alight;
    }

-- calls that stand at the places from `place` on among so many
abbrev pub loaded_from : ℕ → ℕ → List TableCall → List Call
loaded_from count place [] = []
loaded_from count place (c ∷ cs) = call_at count place c ∷ loaded_from count (place + 1) cs
