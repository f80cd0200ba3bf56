-- The edges at one event, and the rule there from stored times.
use Rattle.std.specs.Prelude.{ℕ, List, [], Option, unwrap_or, filter}
use Rattle.std.specs.Option.{option_map, option_map_or}
use Rattle.mt_base.specs.declared.keys.Key.{Key}
use Rattle.mt_base.specs.declared.keys.Node.{Node}
use Rattle.mt_base.specs.declared.options.Opts.{Opts}
use Rattle.mt_base.specs.Order.{is_same, node_of}
use Rattle.delay_model.specs.declared.state.State.{State}
use Rattle.delay_model.specs.declared.state.Event.{Event}
use Rattle.delay_model.specs.declared.state.Edge.{Edge}
use Rattle.delay_model.specs.Events.{events, event_named}
use Rattle.delay_model.specs.Edges.{edges, train_edges}
use Rattle.delay_model.specs.Timing.{incoming, local}
use Rattle.train_nodes.specs.Times.{StoredTimes, time_of}
use Rattle.edge_rules.specs.GraphState.{GraphState}

-- the edges that leave an event
unfoldable pub outgoing : List Edge → Key → List Edge
outgoing gs k = filter (λ e. is_same e.from k) gs

-- the edges that lead to the event of this name
abbrev pub edges_to : GraphState → Node → List Edge
edges_to g n = option_map_or (λ (v : Event). incoming (edges g.network g.state) v.key)
    (event_named g.state n) []

-- the edges that leave the event of this name
abbrev pub edges_from : GraphState → Node → List Edge
edges_from g n = option_map_or (λ (v : Event). outgoing (edges g.network g.state) v.key)
    (event_named g.state n) []

-- the time that is stored for the event of a key, or 0
abbrev pub stored_time : StoredTimes → Key → ℕ
stored_time k key = unwrap_or (time_of k (node_of key)) 0

-- the local rule at the event of this name, from stored times, if the event is there
abbrev pub local_at : GraphState → StoredTimes → Node → Option ℕ
local_at g k n = option_map (local (events g.state) (edges g.network g.state) (stored_time k))
    (event_named g.state n)

-- the edges along trains that lead to the event of this name
abbrev pub along_to : Opts → State → Node → List Edge
along_to o st n = option_map_or (λ (v : Event). incoming (train_edges o 0 st.trains) v.key)
    (event_named st n) []

-- the edges along trains that leave the event of this name
abbrev pub along_from : Opts → State → Node → List Edge
along_from o st n = option_map_or (λ (v : Event). outgoing (train_edges o 0 st.trains) v.key)
    (event_named st n) []
