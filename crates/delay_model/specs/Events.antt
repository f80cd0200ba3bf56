-- The events of a state, in the order of its trains and of their calls.
use Rattle.std.specs.Prelude.{ℕ, ◌+◌, List, [], ◌∷◌, ◌++◌, Bool, true, false, ◌&&◌, if◌then◌else◌, Option, None, slice_get, find, filter}
use Rattle.std.specs.List.{list_any}
use Rattle.std.specs.Option.{option_map_or}
use Rattle.mt_base.specs.declared.keys.Node.{Node}
use Rattle.mt_base.specs.Order.{node_of, is_same_node}
use Rattle.delay_model.specs.declared.state.EventValues.{EventValues}
use Rattle.delay_model.specs.declared.state.Call.{Call}
use Rattle.delay_model.specs.declared.state.Train.{Train}
use Rattle.delay_model.specs.declared.state.State.{State}
use Rattle.delay_model.specs.declared.state.Event.{Event}

-- an event of the train of this number and route, at a call's label and stop
abbrev pub event_by : ℕ → ℕ → ℕ → ℕ → Bool → EventValues → Event
event_by train route label stop dep e =
    record {
      key = record { time = e.scheduled; train = train; label = label; dep = dep };
      stop = stop;
      route = route;
      live = e.live;
      forecast = e.forecast;
      report = e.report;
    }

abbrev pub arrival_of : ℕ → ℕ → Call → Event
arrival_of train route c = event_by train route c.label c.stop false c.arrival

abbrev pub departure_of : ℕ → ℕ → Call → Event
departure_of train route c = event_by train route c.label c.stop true c.departure

-- the events of a train's calls: of each call the arrival, and then the departure. This is the
-- train's order
abbrev pub events_at : ℕ → ℕ → List Call → List Event
events_at train route [] = []
events_at train route (c ∷ cs) = arrival_of train route c ∷ departure_of train route c
    ∷ events_at train route cs

-- the events of the train that has this number
abbrev pub events_of : ℕ → Train → List Event
events_of train t = events_at train t.route t.calls

-- the events of trains that are numbered from `first`
abbrev pub events_from : ℕ → List Train → List Event
events_from first [] = []
events_from first (t ∷ ts) = events_of first t ++ events_from (first + 1) ts

unfoldable pub events : State → List Event
events st = events_from 0 st.trains

-- a list that the train with a number has; nothing where there is no such train
abbrev pub of_train : {X : Type 0} → State → ℕ → (Train → List X) → List X
of_train st train f = option_map_or f (slice_get st.trains train) []

-- the calls of the train with a number
abbrev pub calls_of : State → ℕ → List Call
calls_of st train = of_train st train (λ t. t.calls)

-- the events of the train with a number
abbrev pub train_events : State → ℕ → List Event
train_events st train = of_train st train (events_of train)

-- it is the event of this name
abbrev pub is_event : Node → Event → Bool
is_event n v = is_same_node (node_of v.key) n

-- the event of this name, if it is there
abbrev pub event_named : State → Node → Option Event
event_named st n = find (is_event n) (train_events st n.train)

-- the event of this name is there and live
abbrev pub is_live : State → Node → Bool
is_live st n = list_any (λ v. is_event n v && v.live) (train_events st n.train)

-- the report of an event, if it is live
abbrev pub live_report : Event → Option ℕ
live_report v = if v.live then v.report else None

-- the live events among these
abbrev pub live_events : List Event → List Event
live_events es = filter (λ (v : Event). v.live) es
