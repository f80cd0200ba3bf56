-- The time of an event.
use Rattle.std.specs.Prelude.{◌≡◌, ℕ, zero, suc, ◌+◌, min, max, List, [], ◌∷◌, Bool, true, nat_eq, nat_le, if◌then◌else◌, Option, Some, None, is_some, unwrap_or, fold, filter, map, length, Contains, ◌&&◌}
use Rattle.std.specs.Option.{option_map_or}
use Rattle.mt_base.specs.declared.keys.Key.{Key}
use Rattle.mt_base.specs.Order.{is_same}
use Rattle.delay_model.specs.declared.network.Network.{Network}
use Rattle.delay_model.specs.declared.state.State.{State}
use Rattle.delay_model.specs.declared.state.Event.{Event}
use Rattle.delay_model.specs.declared.state.Edge.{Edge}
use Rattle.delay_model.specs.declared.state.Timed.{Timed}
use Rattle.delay_model.specs.declared.state.EdgeKind.{EdgeKind}
use Rattle.delay_model.specs.declared.state.EdgeKind.TheVariants.{Train, Planned, Kept}
use Rattle.delay_model.specs.Cuts.{after}
use Rattle.delay_model.specs.Events.{events, live_report, live_events}
use Rattle.delay_model.specs.Edges.{edges}

-- the edges that lead to an event
unfoldable pub incoming : List Edge → Key → List Edge
incoming gs k = filter (λ e. is_same e.to k) gs

-- the first report of a live event of the train, among these events
abbrev pub first_report : ℕ → List Event → Option ℕ
first_report train [] = None
first_report train (v ∷ vs) =
    if nat_eq v.key.train train && is_some (live_report v) then live_report v
    else first_report train vs

-- what stands after the event with this key
abbrev pub after_key : Key → List Event → List Event
after_key k es = after (λ (v : Event). is_same v.key k) es

-- the cap: the report of the next later live event of the same train that has one
unfoldable pub cap : List Event → Event → Option ℕ
cap es v = first_report v.key.train (after_key v.key es)

-- the earliest time by schedule and forecast: for a departure not before its schedule, for an
-- arrival as it is forecast
abbrev pub floor_of : Event → ℕ
floor_of v =
    if v.key.dep then max v.key.time (unwrap_or v.forecast 0) else unwrap_or v.forecast v.key.time

-- an edge counts that asks for this time of an event scheduled at s: along a train, or kept,
-- always; a planned one where it asks for a time not later than the schedule and the wait
abbrev pub counts : EdgeKind → ℕ → ℕ → Bool
counts Train s asked = true
counts Kept s asked = true
counts (Planned wait) s asked = nat_le asked (s + wait)

abbrev pub later_of : Edge → ℕ → ℕ → ℕ
later_of e so_far asked = if counts e.kind e.to.time asked then max so_far asked else so_far

-- the later of a time and of what an edge asks for, if it counts
abbrev pub later : (Key → ℕ) → ℕ → Edge → ℕ
later t so_far e = later_of e so_far (t e.from + e.weight)

abbrev pub capped : Option ℕ → ℕ → ℕ
capped None x = x
capped (Some c) x = min c x

-- the local rule: the time of v from the times t of the events that feed it. Its report, or else
-- the greatest of its floor and of what the edges to it that count ask for, but no more than its
-- cap
unfoldable pub local : List Event → List Edge → (Key → ℕ) → Event → ℕ
local es gs t v =
    unwrap_or v.report (capped (cap es v) (fold (later t) (floor_of v) (incoming gs v.key)))

-- the event with this key
abbrev pub event_with : List Event → Key → Option Event
event_with [] k = None
event_with (v ∷ vs) k = if is_same v.key k then Some v else event_with vs k

-- the local rule at each event, over chains of up to so many edges
unfoldable pub time_within : List Event → List Edge → ℕ → Key → ℕ
time_within es gs zero k = 0
time_within es gs (suc n) k = option_map_or (local es gs (time_within es gs n)) (event_with es k) 0

-- the time of the event with this key, over these events and edges. No chain of edges has more
-- edges than there are events
unfoldable pub time : List Event → List Edge → Key → ℕ
time es gs k = time_within es gs (length es) k

-- the time of a live event of a state
unfoldable pub event_time : Network → State → Key → ℕ
event_time nw st k = time (events st) (edges nw st) k

-- these are times that follow the local rule at every live event
abbrev pub IsTiming : Network → State → (Key → ℕ) → Type 0
IsTiming nw st t = (v : Event) → Contains (events st) v → v.live ≡ true
    → t v.key ≡ local (events st) (edges nw st) t v

-- an event with its time
abbrev pub timed_by : (Key → ℕ) → Event → Timed
timed_by t v = record { key = v.key; time = t v.key }

-- the live events of a state, in their order, each with its time
abbrev pub live_times : Network → State → List Timed
live_times nw st = map (timed_by (event_time nw st)) (live_events (events st))

-- the time that is kept for a key, or 0
abbrev pub time_at : List Timed → Key → ℕ
time_at [] k = 0
time_at (r ∷ rs) k = if is_same r.key k then r.time else time_at rs k
