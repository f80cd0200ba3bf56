-- The edges of the dependency graph (Mueller-Hannemann and Schnee, 2009): travelling and standing
-- along each train, and transfers between trains.
use Rattle.std.specs.Prelude.{◌≡◌, ◌≢◌, ℕ, ◌+◌, ◌-◌, ◌*◌, ◌/◌, min, List, [], ◌∷◌, ◌++◌, Bool, ◌&&◌, not, nat_eq, nat_le, nat_lt, if◌then◌else◌, Option, Some, None, flat_map}
use Rattle.std.specs.FinMap.{get}
use Rattle.mt_base.specs.declared.options.Opts.{Opts}
use Rattle.mt_base.specs.Order.{node_of}
use Rattle.delay_model.specs.declared.network.Network.{Network}
use Rattle.delay_model.specs.declared.overrides.Override.{Override}
use Rattle.delay_model.specs.declared.overrides.Override.TheVariants.{Keep, Drop}
use Rattle.delay_model.specs.declared.state.Train.{Train}
use Rattle.delay_model.specs.declared.state.State.{State}
use Rattle.delay_model.specs.declared.state.Event.{Event}
use Rattle.delay_model.specs.declared.state.Edge.{Edge}
use Rattle.delay_model.specs.declared.state.EdgeKind.{EdgeKind}
use Rattle.delay_model.specs.declared.state.EdgeKind.TheVariants.{Train as AlongTrain, Planned, Kept}
use Rattle.delay_model.specs.Overrides.{connection}
use Rattle.delay_model.specs.Changes.{change}
use Rattle.delay_model.specs.Waits.{wait}
use Rattle.delay_model.specs.Events.{events_of, events}

-- the least time in seconds from a departure to the next arrival: the scheduled time d less the
-- slack
abbrev pub minimum_running : Opts → ℕ → ℕ
minimum_running o d = d - d * o.slack / 100

-- the least time in seconds from an arrival to the departure of the same call
abbrev pub minimum_dwell : Opts → ℕ → ℕ
minimum_dwell o d = min d o.stop

-- the least time from an event of a train to the next one. Where the schedule falls, the difference
-- is 0
abbrev pub minimum_between : Opts → Event → Event → ℕ
minimum_between o u v =
    let d = v.key.time - u.key.time in
    if u.key.dep then minimum_running o d else minimum_dwell o d

abbrev pub train_edge : Opts → Event → Event → Edge
train_edge o u v = record {
  from = u.key;
  to = v.key;
  weight = minimum_between o u v;
  kind = AlongTrain;
}

-- the edge from an event to the first of those after it, where both are live
abbrev pub edge_on : Opts → Event → List Event → List Edge
edge_on o u [] = []
edge_on o u (v ∷ vs) = if u.live && v.live then train_edge o u v ∷ [] else []

-- the edges along one train: from each of its events to the next one
abbrev pub edges_along : Opts → List Event → List Edge
edges_along o [] = []
edges_along o (u ∷ vs) = edge_on o u vs ++ edges_along o vs

-- the edges along the trains that are numbered from `first`
abbrev pub train_edges : Opts → ℕ → List Train → List Edge
train_edges o first [] = []
train_edges o first (t ∷ ts) = edges_along o (events_of first t) ++ train_edges o (first + 1) ts

-- from a live arrival to a live departure of another train
abbrev pub may_connect : Event → Event → Bool
may_connect u v = (u.live && v.live) && ((not u.key.dep && v.key.dep)
    && not (nat_eq u.key.train v.key.train))

-- the seconds of the change from u's stop to v's, if it is possible
abbrev pub change_between : Network → Event → Event → Option ℕ
change_between nw u v = change nw.stops nw.transfers nw.opts.change u.stop v.stop

-- how long v's train waits for u's
abbrev pub wait_between : Network → Event → Event → ℕ
wait_between nw u v = wait nw.stops nw.rules u.route v.route v.stop

-- v is planned to be reached from u, by a change of w seconds: its train waits at all, for at most
-- `wait` seconds, and it is scheduled not before the change is done and at most `window` seconds
-- after; both ends count
abbrev pub is_planned : Opts → ℕ → ℕ → Event → Event → Bool
is_planned o w wait u v = nat_lt 0 wait && (nat_le (u.key.time + w) v.key.time
    && nat_le v.key.time (u.key.time + w + o.window))

-- the kind of the edge between two trains, if there is one, by what a dispatcher chose for it: a
-- kept connection needs no rule
abbrev pub transfer_kind : Option Override → Bool → ℕ → Option EdgeKind
transfer_kind (Some Keep) planned wait = Some Kept
transfer_kind (Some Drop) planned wait = None
transfer_kind None planned wait = if planned then Some (Planned wait) else None

abbrev pub edge_of_kind : Event → Event → ℕ → Option EdgeKind → List Edge
edge_of_kind u v w None = []
edge_of_kind u v w (Some kind) = record { from = u.key; to = v.key; weight = w; kind = kind } ∷ []

abbrev pub edge_by_change : Network → Option Override → Event → Event → Option ℕ → List Edge
edge_by_change nw choice u v None = []
edge_by_change nw choice u v (Some w) =
    let wait = wait_between nw u v in
    edge_of_kind u v w (transfer_kind choice (is_planned nw.opts w wait u v) wait)

-- the edge between two trains from u to v, if there is one
unfoldable pub transfer : Network → Option Override → Event → Event → List Edge
transfer nw choice u v = if may_connect u v then edge_by_change nw choice u v
    (change_between nw u v) else []

-- what a dispatcher chose for the connection from u to v
abbrev pub override_of : State → Event → Event → Option Override
override_of st u v = get st.overrides (connection (node_of u.key) (node_of v.key))

abbrev pub transfers_from : Network → (Event → Event → Option Override) → List Event → Event
    → List Edge
transfers_from nw choices vs u = flat_map (λ v. transfer nw (choices u v) u v) vs

-- the edges between trains: of all pairs of events
abbrev pub transfer_edges : Network → (Event → Event → Option Override) → List Event → List Edge
transfer_edges nw choices es = flat_map (transfers_from nw choices es) es

unfoldable pub edges : Network → State → List Edge
edges nw st = train_edges nw.opts 0 st.trains ++ transfer_edges nw (override_of st) (events st)

-- the two edges do not lead from one event to one event
abbrev pub DifferInEnds : Edge → Edge → Type 0
DifferInEnds d e = node_of d.from ≡ node_of e.from → node_of d.to ≢ node_of e.to
