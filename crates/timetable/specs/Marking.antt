-- Which events a message takes away, and which are marked before it is applied and after.
use Rattle.std.specs.Prelude.{◌≡◌, ℕ, ◌≤◌, List, [], Bool, ◌&&◌, ◌||◌, nat_le, None, All, Contains, filter, length}
use Rattle.std.specs.List.{list_any}
use Rattle.mt_base.specs.declared.keys.Key.{Key}
use Rattle.mt_base.specs.declared.keys.Node.{Node}
use Rattle.mt_base.specs.Order.{is_same, is_same_node, node_of}
use Rattle.delay_model.specs.declared.messages.Message.{Message}
use Rattle.delay_model.specs.declared.messages.Message.TheVariants.{Reroute, Extra}
use Rattle.delay_model.specs.declared.network.Network.{Network}
use Rattle.delay_model.specs.declared.state.Edge.{Edge}
use Rattle.delay_model.specs.declared.state.Event.{Event}
use Rattle.delay_model.specs.declared.state.State.{State}
use Rattle.delay_model.specs.Edges.{edges}
use Rattle.delay_model.specs.Effect.{effect, events_between, stretch}
use Rattle.delay_model.specs.Events.{events, is_live}
use Rattle.delay_model.specs.Messages.{IsWellFormed}
use Rattle.delay_model.specs.Refusals.{refusal}
use Rattle.delay_model.specs.Touched.{is_fed_by, live_only, named}
use Rattle.delay_model.specs.Valid.{IsValid}
use Rattle.train_nodes.specs.declared.kinds.Shape.{Shape}
use Rattle.train_nodes.specs.declared.kinds.Shape.TheVariants as Shapes
use Rattle.train_nodes.specs.Times.{no_time}
use Rattle.edge_rules.specs.AtEvent.{edges_from}
use Rattle.edge_rules.specs.Deciding.{may_change}
use Rattle.edge_rules.specs.GraphState.{GraphState}
use Rattle.rank_order.specs.Marked.{Marked, is_marked}
use Rattle.propagate.specs.LiveKeys.{live_keys}
use Rattle.propagate.specs.Unsettled.{is_unsettled}

-- the events of which a message takes the live ones away
abbrev pub leaving_of : State → Shape → List Event
leaving_of st (Shapes.Cancel train from to) = stretch st train from to
leaving_of st (Shapes.Reroute train from to via) = events_between st train from to
leaving_of st (Shapes.Extra train day route calls) = []

-- only live events among these are marked, and there is room for marks of them all
pub record AreMarksOf (es : List Event) (marks : Marked) : Type 0 where
  pub live : All (Contains (live_keys es)) marks.keys
  pub room : length (live_keys es) ≤ marks.room

-- it is a live event of some that can all be marked
pub record CanBeMarked (marks : Marked) (k : Key) : Type 0 where
  pub events : List Event
  pub fit : AreMarksOf events marks
  pub live : Contains (live_keys events) k

-- one of these edges leads to this key
abbrev pub leads_to : List Edge → Key → Bool
leads_to gs k = list_any (λ e. is_same e.to k) gs

-- an edge leads to this key from the event of this name
abbrev pub is_fed_from : GraphState → Key → Node → Bool
is_fed_from g k n = leads_to (edges_from g n) k

-- an edge that may change a time, where the event that it leaves gets its first time, leads to this
-- key from the event of this name
abbrev pub is_fed_from_new : GraphState → Key → Node → Bool
is_fed_from_new g k n = leads_to (filter (may_change no_time no_time) (edges_from g n)) k

-- the event is live, its label is one of those from `first` on, and this key is its own or that of
-- an event whose time it may change
abbrev pub is_marked_by : GraphState → ℕ → Key → Event → Bool
is_marked_by g first k v = (v.live && nat_le first v.key.label)
    && (is_same v.key k || is_fed_from_new g k (node_of v.key))

-- the event of this name is live, and this key is its own or that of an event whose time it may
-- change
abbrev pub is_marked_from : GraphState → Key → Node → Bool
is_marked_from g k n =
    is_live g.state n && (is_same_node (node_of k) n || is_fed_from_new g k n)

-- the events that a message names, where they are known before it is applied
abbrev pub named_before : State → Message → List Node
named_before st (Reroute train from to via) = []
named_before st (Extra train day route calls) = []
named_before st m = named st m

-- before a message is applied the live events are marked that it names, and those that are fed by
-- one that it takes away
pub record IsMarkedBefore (nw : Network) (st : State) (m : Message)
    (marks : Marked) : Type 0 where
  pub fit : AreMarksOf (events st) marks
  pub marked : (k : Key) → Contains (live_keys (events st)) k
      → is_marked marks k ≡ (list_any (is_same_node (node_of k)) (named_before st m)
      || is_fed_by (edges nw st) (live_only (events st) (events (effect st m))) k)

-- after a message the live events are marked that may have another value, and no others
pub record AreUnsettled (nw : Network) (st : State) (m : Message)
    (marks : Marked) : Type 0 where
  pub live : All (Contains (live_keys (events (effect st m)))) marks.keys
  pub marked : (k : Key) → Contains (live_keys (events (effect st m))) k
      → is_marked marks k ≡ is_unsettled nw st m k

-- an accepted message makes the one state of the other
pub record IsStateAfter (nw : Network) (old new : State) (m : Message) : Type 0 where
  pub valid : IsValid nw old
  pub well_formed : IsWellFormed m
  pub accepted : refusal nw old m ≡ None
  pub made : new ≡ effect old m

-- a message was applied, before which events were marked
pub record IsMarkedAndApplied (g : GraphState) (m : Message) (marks : Marked) : Type 0 where
  pub old : State
  pub step : IsStateAfter g.network old g.state m
  pub before : IsMarkedBefore g.network old m marks
