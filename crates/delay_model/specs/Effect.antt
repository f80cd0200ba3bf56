-- What a message does to the state. All that is not named here stays.
use Rattle.std.specs.Prelude.{ℕ, zero, suc, ◌+◌, ◌-◌, List, [], ◌∷◌, ◌++◌, Bool, true, false, ◌||◌, not, nat_eq, if◌then◌else◌, Option, Some, None, map, length, is_some}
use Rattle.std.specs.List.{list_any}
use Rattle.std.specs.FinMap.{get, insert, remove, retain_keys, len}
use Rattle.mt_base.specs.declared.keys.Node.{Node}
use Rattle.mt_base.specs.declared.new_calls.NewCall.{NewCall}
use Rattle.delay_model.specs.declared.overrides.Connection.{Connection}
use Rattle.delay_model.specs.declared.overrides.Override.{Override}
use Rattle.delay_model.specs.declared.overrides.Override.TheVariants.{Keep as Kept, Drop as Dropped}
use Rattle.delay_model.specs.declared.messages.Message.{Message}
use Rattle.delay_model.specs.declared.messages.Message.TheVariants.{Report, Forecast, Correct, Withdraw, Cancel, Reroute, Extra, Keep, Drop, Rule}
use Rattle.delay_model.specs.declared.state.EventValues.{EventValues}
use Rattle.delay_model.specs.declared.state.Call.{Call}
use Rattle.delay_model.specs.declared.state.Train.{Train}
use Rattle.delay_model.specs.declared.state.State.{State}
use Rattle.delay_model.specs.declared.state.Event.{Event}
use Rattle.delay_model.specs.Overrides.{connection}
use Rattle.delay_model.specs.Cuts as Cuts
use Rattle.delay_model.specs.Cuts.{before, after, up_to}
use Rattle.delay_model.specs.Events.{of_train, train_events, events_at, is_event}

-- the arrival (dep false) or the departure (dep true) of a call
abbrev pub node_at : ℕ → ℕ → Bool → Node
node_at train label dep = record { train = train; label = label; dep = dep }

-- the train with this number is changed, if it is there
abbrev pub change_train : ℕ → (Train → Train) → List Train → List Train
change_train n f [] = []
change_train zero f (t ∷ ts) = f t ∷ ts
change_train (suc n) f (t ∷ ts) = t ∷ change_train n f ts

abbrev pub change_calls : (List Call → List Call) → Train → Train
change_calls f t = record t { calls = f t.calls }

abbrev pub change_event : Bool → (EventValues → EventValues) → Call → Call
change_event true f c = record c { departure = f c.departure }
change_event false f c = record c { arrival = f c.arrival }

-- it is the call with this label
abbrev pub is_call : ℕ → Call → Bool
is_call label c = nat_eq c.label label

abbrev pub change_labelled : ℕ → (Call → Call) → Call → Call
change_labelled label f c = if is_call label c then f c else c

-- the values of one event are changed
abbrev pub with_event : Node → (EventValues → EventValues) → State → State
with_event n f st =
    record st {
      trains = change_train n.train
          (change_calls (map (change_labelled n.label (change_event n.dep f)))) st.trains;
    }

-- an event with this report, or none
abbrev pub with_report : Option ℕ → EventValues → EventValues
with_report r e = record e { report = r }

-- an event with this forecast, or none
abbrev pub with_forecast : Option ℕ → EventValues → EventValues
with_forecast f e = record e { forecast = f }

-- the events of a train from the departure of one call to the arrival of a later one
abbrev pub stretch : State → ℕ → ℕ → ℕ → List Event
stretch st train from to =
    up_to (is_event (node_at train to false)) (Cuts.from (is_event (node_at train from true))
    (train_events st train))

-- the event of this name is among these
abbrev pub is_among : List Event → Node → Bool
is_among es n = list_any (is_event n) es

abbrev pub killed : Bool → EventValues → EventValues
killed b e = if b then record e { live = false } else e

-- those of a call's events that are among these are no longer live
abbrev pub kill_in : List Event → ℕ → Call → Call
kill_in es train c =
    record c {
      arrival = killed (is_among es (node_at train c.label false)) c.arrival;
      departure = killed (is_among es (node_at train c.label true)) c.departure;
    }

abbrev pub names_one_of : List Event → Connection → Bool
names_one_of es p = is_among es p.arrival || is_among es p.departure

-- the overrides that name one of these events go, and each gives one back
abbrev pub without_overrides_of : List Event → State → State
without_overrides_of es st =
    let left = retain_keys st.overrides (λ p. not (names_one_of es p)) in
    record st {
      overrides = left;
      spare_overrides = st.spare_overrides
          + (len st.overrides - len left);
    }

-- the calls strictly between two calls
abbrev pub calls_between : ℕ → ℕ → List Call → List Call
calls_between from to cs = before (is_call to) (after (is_call from) cs)

-- a new event: live, with no forecast and no report
abbrev pub new_event : ℕ → EventValues
new_event scheduled = record { scheduled = scheduled; live = true; forecast = None; report = None }

-- passengers may board and alight at a new call
abbrev pub new_call : ℕ → NewCall → Call
new_call label c =
    record {
      label = label;
      stop = c.stop;
      arrival = new_event c.arr;
      departure = new_event c.dep;
      board = true;
      alight = true;
    }

-- new calls, labelled from `label` on in their order
abbrev pub new_calls : ℕ → List NewCall → List Call
new_calls label [] = []
new_calls label (c ∷ cs) = new_call label c ∷ new_calls (label + 1) cs

-- the train makes the calls `via` in place of those between two of its calls
abbrev pub rerouted : ℕ → ℕ → List NewCall → Train → Train
rerouted from to via t =
    record t {
      next_label = t.next_label + length via;
      calls = up_to (is_call from) t.calls ++ new_calls t.next_label via
          ++ Cuts.from (is_call to) t.calls;
    }

-- nobody arrives by a train at its first call
abbrev pub begin_run : List Call → List Call
begin_run [] = []
begin_run (c ∷ cs) = change_event false (killed true) c ∷ cs

-- nor leaves by it from its last
abbrev pub end_run : List Call → List Call
end_run [] = []
end_run (c ∷ []) = change_event true (killed true) c ∷ []
end_run (c ∷ d ∷ ds) = c ∷ end_run (d ∷ ds)

-- a new train, whose calls are labelled 0, 1, ..
abbrev pub new_train : ℕ → ℕ → List NewCall → Train
new_train day route calls =
    record {
      day = day;
      route = route;
      next_label = length calls;
      calls = begin_run (end_run (new_calls 0 calls));
    }

abbrev pub has_override : State → Connection → Bool
has_override st p = is_some (get st.overrides p)

-- an override for a connection, in place of the one before. A connection without override takes a
-- spare one
abbrev pub with_override : Connection → Override → State → State
with_override p o st =
    record st {
      overrides = insert st.overrides p o;
      spare_overrides = if has_override st p then st.spare_overrides else st.spare_overrides - 1;
    }

-- no override for a connection. One that is taken back is spare again
abbrev pub without_override : Connection → State → State
without_override p st =
    record st {
      overrides = remove st.overrides p;
      spare_overrides = if has_override st p then st.spare_overrides + 1 else st.spare_overrides;
    }

-- the events of the calls strictly between two calls of a train
abbrev pub events_between : State → ℕ → ℕ → ℕ → List Event
events_between st train from to =
    of_train st train (λ t. events_at train t.route (calls_between from to t.calls))

-- the state after a message
unfoldable pub effect : State → Message → State
effect st (Report n t) = with_event n (with_report (Some t)) st
effect st (Forecast n t) = with_event n (with_forecast (Some t)) st
effect st (Correct n o) = with_event n (with_report o) st
effect st (Withdraw n) = with_event n (with_forecast None) st
effect st (Cancel train from to) =
    let es = stretch st train from to in
    without_overrides_of es (record st {
      trains = change_train train
          (change_calls (map (kill_in es train))) st.trains;
    })
effect st (Reroute train from to via) =
    without_overrides_of (events_between st train from to)
    (record st {
      trains = change_train train (rerouted from to via) st.trains;
      spare_calls = st.spare_calls - length via;
    })
effect st (Extra train day route calls) =
    record st {
      trains = st.trains ++ new_train day route calls ∷ [];
      spare_trains = st.spare_trains - 1;
      spare_calls = st.spare_calls - length calls;
    }
effect st (Keep feeder train) = with_override (connection feeder train) Kept st
effect st (Drop feeder train) = with_override (connection feeder train) Dropped st
effect st (Rule feeder train) = without_override (connection feeder train) st
