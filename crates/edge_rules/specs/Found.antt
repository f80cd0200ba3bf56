-- The edges between trains at an event, as they are found: the planned ones by ranges of an index
-- of events, and the kept ones by what was chosen.
use Rattle.std.specs.Prelude.{All, ℕ, ◌≡◌, ◌+◌, ◌-◌, min, max, List, [], true, false, Bool, not}
use Rattle.std.specs.Prelude.{◌&&◌, nat_lt, is_none, if◌then◌else◌, Some, None, filter, flat_map}
use Rattle.std.specs.Option.{option_map_or}
use Rattle.mt_base.specs.declared.keys.Node.{Node}
use Rattle.mt_base.specs.declared.index_entries.Entry.{Entry}
use Rattle.mt_base.specs.Order.{node_of}
use Rattle.delay_model.specs.declared.network.Network.{Network}
use Rattle.delay_model.specs.declared.overrides.Override.TheVariants.{Keep}
use Rattle.delay_model.specs.declared.state.State.{State}
use Rattle.delay_model.specs.declared.state.Event.{Event}
use Rattle.delay_model.specs.declared.state.Edge.{Edge}
use Rattle.delay_model.specs.declared.state.EdgeKind.{EdgeKind}
use Rattle.delay_model.specs.declared.state.EdgeKind.TheVariants.{Train as AlongTrain, Planned}
use Rattle.delay_model.specs.declared.state.EdgeKind.TheVariants.{Kept}
use Rattle.delay_model.specs.Edges.{transfer, may_connect, override_of, edge_by_change}
use Rattle.delay_model.specs.Events.{event_named}
use Rattle.change_times.specs.declared.change.Change.{Change}
use Rattle.change_times.specs.ChangeTables.{ChangeTables}
use Rattle.change_times.specs.Reach.{reached, reached_back}
use Rattle.train_nodes.specs.Keeps.{kept_into, kept_from}
use Rattle.station_index.specs.Indexed.{entries_in}
use Rattle.waiting_rules.specs.WaitTable.{WaitsAt, wait_table}
use Rattle.edge_rules.specs.Deciding.{may_change}
use Rattle.edge_rules.specs.GraphState.{GraphState}
use Rattle.edge_rules.specs.Indexing.{entry_of}
use Rattle.edge_rules.specs.Wanted.{Wanted, Into, From, Changing}

-- what the change times of a network follow from
abbrev pub tables_in : Network → ChangeTables
tables_in nw = record { stops = nw.stops; transfers = nw.transfers; default = nw.opts.change }

-- the edges lead to the event
abbrev pub are_into : Wanted → Bool
are_into (Into waits) = true
are_into From = false
are_into (Changing shift) = false

-- there can be planned edges: they lead to departures and leave arrivals, and one that asks for no
-- more than the schedules changes nothing
abbrev pub can_be_at : Wanted → Event → Bool
can_be_at (Into waits) v = v.key.dep
can_be_at From v = not v.key.dep
can_be_at (Changing shift) v = not v.key.dep && nat_lt v.key.time (max shift.was shift.is)

-- the stops from which one can change to a stop (into), or to which one can change from it
abbrev pub joined_stops : ChangeTables → Bool → ℕ → List Change
joined_stops t into stop = if into then reached_back t stop else reached t stop

-- from which time on the other events are scheduled that are looked for from an event at a time, by
-- a change of w seconds: they may lie apart by the window, and after a change of times only those
-- matter whose wait can reach the earlier one
abbrev pub first_near : ℕ → Wanted → ℕ → ℕ → ℕ
first_near window (Into waits) time w = time - w - window
first_near window From time w = time + w
first_near window (Changing shift) time w =
    max (time + w) (min shift.was shift.is + w - shift.longest_wait)

-- up to which time they are scheduled: after a change of times before the later one
abbrev pub last_near : ℕ → Wanted → ℕ → ℕ → ℕ
last_near window (Into waits) time w = time - w
last_near window From time w = time + w + window
last_near window (Changing shift) time w =
    min (time + w + window) (max shift.was shift.is + w - 1)

-- the entries of the arrivals at a stop that are in time for a change to a departure at a time, or
-- of the departures that are in time for a change from an arrival
abbrev pub entries_near : ℕ → List Entry → Wanted → ℕ → Change → List Entry
entries_near window es wanted time c = entries_in c.stop (not (are_into wanted))
    (first_near window wanted time c.seconds) (last_near window wanted time c.seconds) es

-- the edge that is planned from u to v by a change of w seconds, where nothing was chosen for it
abbrev pub planned_between : GraphState → ℕ → Event → Event → List Edge
planned_between g w u v = if may_connect u v && is_none (override_of g.state u v)
    then edge_by_change g.network None u v (Some w) else []

-- the planned edge from another event to v, or from v to the other, if it is wanted
abbrev pub planned_with : GraphState → Wanted → Event → ℕ → Event → List Edge
planned_with g (Into waits) v w u = planned_between g w u v
planned_with g From v w u = planned_between g w v u
planned_with g (Changing shift) v w u =
    filter (may_change shift.was shift.is) (planned_between g w v u)

-- the edge from another event to v (into), or from v to the other, where the connection is kept
abbrev pub kept_with : GraphState → Bool → Event → Event → List Edge
kept_with g into v u = if into then transfer g.network (Some Keep) u v
    else transfer g.network (Some Keep) v u

-- the edges that an event makes, by its name, if it is there
abbrev pub of_name : State → (Event → List Edge) → Node → List Edge
of_name st f n = option_map_or f (event_named st n) []

-- the edges that the event of an entry makes, if it is there
abbrev pub of_entry : State → (Event → List Edge) → Entry → List Edge
of_entry st f e = of_name st f e.node

-- the planned edges to v, or from v, by a change from or to one stop
abbrev pub planned_by : GraphState → List Entry → Wanted → Event → Change → List Edge
planned_by g es wanted v c = flat_map (of_entry g.state (planned_with g wanted v c.seconds))
    (entries_near g.network.opts.window es wanted v.key.time c)

-- the planned edges to v, or from v
abbrev pub planned_at : GraphState → List Entry → Wanted → Event → List Edge
planned_at g es wanted v = flat_map (planned_by g es wanted v)
    (joined_stops (tables_in g.network) (are_into wanted) v.stop)

-- the events whose connections to an event (into), or from it, are kept
abbrev pub kept_names : State → Bool → Node → List Node
kept_names st into n = if into then kept_into st.overrides n else kept_from st.overrides n

-- the kept edges to v (into), or from v
abbrev pub kept_at : GraphState → Bool → Event → List Edge
kept_at g into v = flat_map (of_name g.state (kept_with g into v))
    (kept_names g.state into (node_of v.key))

-- the entry is that of a live event
pub record HasLiveEvent (st : State) (e : Entry) : Type 0 where
  pub event : Event
  pub named : event_named st e.node ≡ Some event
  pub entry : entry_of event ≡ e
  pub live : event.live ≡ true

-- each of these entries is that of a live event
abbrev pub HaveLiveEvents : State → List Entry → Type 0
HaveLiveEvents st es = All (HasLiveEvent st) es

-- an event without what was reported of it
abbrev pub unreported : Event → Event
unreported v = record v { forecast = None; report = None }

-- how long the train of a departure waits, by the routes of late feeders
abbrev pub waits_at : GraphState → Event → WaitsAt
waits_at g v = record {
  table = wait_table g.network.stops g.network.rules;
  connecting = v.route;
  stop = v.stop;
}

-- the longest wait of an edge in seconds, or 0
abbrev pub wait_of : EdgeKind → ℕ
wait_of AlongTrain = 0
wait_of Kept = 0
wait_of (Planned wait) = wait
