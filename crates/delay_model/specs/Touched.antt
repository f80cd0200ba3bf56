-- What a message may change: the changed events, the events that it names, and the touched events.
use Rattle.std.specs.Prelude.{ℕ, List, [], ◌∷◌, ◌++◌, Bool, false, ◌&&◌, ◌||◌, not, nat_eq, if◌then◌else◌, is_some, map, filter, length}
use Rattle.std.specs.List.{list_any}
use Rattle.mt_base.specs.declared.keys.Key.{Key}
use Rattle.mt_base.specs.declared.keys.Node.{Node}
use Rattle.mt_base.specs.declared.new_calls.NewCall.{NewCall}
use Rattle.mt_base.specs.Order.{is_same, node_of, is_same_node}
use Rattle.delay_model.specs.declared.network.Network.{Network}
use Rattle.delay_model.specs.declared.messages.Message.{Message}
use Rattle.delay_model.specs.declared.messages.Message.TheVariants.{Report, Forecast, Correct, Withdraw, Cancel, Reroute, Extra, Keep, Drop, Rule}
use Rattle.delay_model.specs.declared.state.State.{State}
use Rattle.delay_model.specs.declared.state.Event.{Event}
use Rattle.delay_model.specs.declared.state.Edge.{Edge}
use Rattle.delay_model.specs.Events.{of_train, events, train_events, events_at, is_event, live_report, live_events}
use Rattle.delay_model.specs.Cuts.{before}
use Rattle.delay_model.specs.Edges.{edges}
use Rattle.delay_model.specs.Timing.{event_time}
use Rattle.delay_model.specs.Effect.{effect, node_at, new_calls}

-- an event with this key is live. A key stands for one event in every state, since labels are never
-- used again and scheduled times stay
abbrev pub is_live_key : List Event → Key → Bool
is_live_key es k = list_any (λ v. v.live && is_same v.key k) es

-- the live events of the one list that are not live in the other
abbrev pub live_only : List Event → List Event → List Event
live_only es fs = filter (λ v. not (is_live_key fs v.key)) (live_events es)

-- the events that are live in both, at times that differ
abbrev pub time_changes : (Key → ℕ) → (Key → ℕ) → List Event → List Event → List Event
time_changes t u es fs = filter (λ v. is_live_key es v.key && not (nat_eq (t v.key) (u v.key)))
    (live_events fs)

-- the events that are live before or after but not both, or that are live in both at times that
-- differ. es and t are the events and times before, fs and u those after
abbrev pub differing : (Key → ℕ) → (Key → ℕ) → List Event → List Event → List Event
differing t u es fs = live_only es fs ++ (live_only fs es ++ time_changes t u es fs)

-- the events that a message changes, from one state to the other
unfoldable pub changed : Network → State → State → List Event
changed nw old new = differing (event_time nw old) (event_time nw new) (events old) (events new)

-- the number of events that an accepted message changes
abbrev pub changed_count : Network → State → Message → ℕ
changed_count nw st m = length (changed nw st (effect st m))

abbrev pub is_reported : Event → Bool
is_reported v = is_some (live_report v)

-- what follows the last reported event
abbrev pub since_report : List Event → List Event
since_report [] = []
since_report (v ∷ vs) = if list_any is_reported (v ∷ vs) then since_report vs else v ∷ vs

abbrev pub names_of : List Event → List Node
names_of es = map (λ (v : Event). node_of v.key) es

-- the events that a rerouting makes
abbrev pub new_events : State → ℕ → List NewCall → List Event
new_events st train via =
    of_train st train (λ t. events_at train t.route (new_calls t.next_label via))

-- an event, and the live events of its train before it back to the last reported one, that one
-- excluded: those that a report of the event caps
abbrev pub capped_by : State → Node → List Node
capped_by st n =
    names_of (live_events (since_report (before (is_event n) (train_events st n.train))))
    ++ (n ∷ [])

-- the events that a message bears on by itself. Of a report and its correction: the event, and
-- those that the report caps. Of a forecast and its withdrawal: the event. Of a rerouting: the new
-- events and the arrival that they lead to. Of a kept, dropped or freed connection: the departure
abbrev pub named : State → Message → List Node
named st (Report n t) = capped_by st n
named st (Forecast n t) = n ∷ []
named st (Correct n o) = capped_by st n
named st (Withdraw n) = n ∷ []
named st (Cancel train from to) = []
named st (Reroute train from to via) = names_of (new_events st train via)
    ++ (node_at train to false ∷ [])
named st (Extra train day route calls) =
    names_of (train_events (effect st (Extra train day route calls)) train)
named st (Keep feeder train) = train ∷ []
named st (Drop feeder train) = train ∷ []
named st (Rule feeder train) = train ∷ []

-- an edge leads to this key from one of these events
abbrev pub is_fed_by : List Edge → List Event → Key → Bool
is_fed_by gs es k =
    list_any (λ e. is_same e.to k && list_any (λ (v : Event). is_same e.from v.key) es) gs

-- the live events after a message that it names, or to which an edge of the old or of the new state
-- leads from a changed event
unfoldable pub touched : Network → State → Message → List Event
touched nw st m =
    filter (λ v. list_any (is_same_node (node_of v.key)) (named st m)
    || is_fed_by (edges nw st ++ edges nw (effect st m)) (changed nw st (effect st m)) v.key)
    (live_events (events (effect st m)))
