-- Which events are settled anew, and how many stored times that takes.
use Rattle.std.specs.Prelude.{◌≡◌, ℕ, ◌+◌, Bool, ◌&&◌, ◌||◌, length}
use Rattle.std.specs.List.{list_any}
use Rattle.mt_base.specs.declared.keys.Key.{Key}
use Rattle.mt_base.specs.Order.{node_of, is_same}
use Rattle.delay_model.specs.Edges.{edges}
use Rattle.delay_model.specs.Timing.{event_time, incoming}
use Rattle.train_nodes.specs.Times.{StoredTimes, time_of}
use Rattle.edge_rules.specs.AtEvent.{stored_time, local_at}
use Rattle.edge_rules.specs.Deciding.{may_change}
use Rattle.edge_rules.specs.GraphState.{GraphState}
use Rattle.rank_order.specs.Marked.{Marked, is_marked}
use Rattle.propagate.specs.LiveKeys.{has_another}

-- the time that is stored for the event is the one that the rule gives it from the stored times of
-- the events that feed it
abbrev pub FollowsRule : GraphState → StoredTimes → Key → Type 0
FollowsRule g times k = local_at g times (node_of k) ≡ time_of times (node_of k)

-- an edge to this key leads from an event whose time differs from the stored one, and may change
-- the time of the event to which it leads
abbrev pub has_changed_feeder : GraphState → StoredTimes → Key → Bool
has_changed_feeder g times k =
    list_any (λ e. is_same e.to k && (has_another g.network g.state times e.from
    && may_change (stored_time times e.from) (event_time g.network g.state e.from) e))
    (edges g.network g.state)

-- the event is settled anew: it is marked, or fed by one whose time has changed
abbrev pub is_due : GraphState → Marked → StoredTimes → Key → Bool
is_due g marks times k = is_marked marks k || has_changed_feeder g times k

-- how many stored times are read to settle an event: its own, and one for each edge that leads to
-- it
abbrev pub reads_at : GraphState → Key → ℕ
reads_at g k = 1 + length (incoming (edges g.network g.state) k)
