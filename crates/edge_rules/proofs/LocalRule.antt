-- The local rule at an event.
use Rattle.edge_rules.proofs.Words.{◌^◌, Edge, floor_of, local, IsLater, All-right, local_at, ◌≡◌, ℕ, ◌+◌, ◌<◌, arith, true, Some, unwrap_or, All, fold, length-append, Node, Event, event_named, later, capped, report_after, IsReady, transfers_to, All-left, node_of, along_to, edges_to, stored_time, HasOwnLabels, GraphState}
use Rattle.std.proofs.lemmas.List.Sums.{fold-append}
use Rattle.train_nodes.specs.Times.{StoredTimes, has_time}
use Rattle.edge_rules.proofs.TransferLemmas.{edges-at}
use Rattle.edge_rules.proofs.Caps.{cap-is}

-- the rule at an event: its report, or else what the edges to it ask for from its floor on, up to the next report of its train
pub rule-at : (g : GraphState) (k : StoredTimes) (n : Node) (v : Event) (x t : ℕ) → All HasOwnLabels g.state.trains → event_named g.state n ≡ Some v → x ≡ fold (later (stored_time k)) (floor_of v) (edges_to g n) → t ≡ unwrap_or v.report (capped (report_after g.state n) x) → local_at g k n ≡ Some t
unfolding local
rule-at g k n v x t labels named asked is = grind (arith, cap-is)

module _ (k : StoredTimes) where
  -- the edges to an event: along its train, and those between trains
  module _ (g : GraphState) (v : Event) (labels : All HasOwnLabels g.state.trains) (named : event_named g.state (node_of v.key) ≡ Some v) where
    -- what each of the two needs
    pub ready-parts : All (λ (e : Edge). has_time k (node_of e.from) ≡ true) (edges_to g (node_of v.key)) → All (λ (e : Edge). stored_time k e.from + e.weight < 2 ^ 25) (edges_to g (node_of v.key)) → All (IsReady k) (along_to g.network.opts g.state (node_of v.key)) × All (IsReady k) (transfers_to g v)
    ready-parts held fits =
        let each : All (IsReady k) (edges_to g (node_of v.key)) = λ i d l. record { has = held i d l; fits = fits i d l } in
        let all = rw (edges-at g (node_of v.key) v labels named).0 at each in (All-left (IsReady k) _ _ all, All-right (IsReady k) (along_to g.network.opts g.state (node_of v.key)) _ all)

    -- the one after the other
    pub later-parts : (so_far steps time spent last total : ℕ) → IsLater k so_far steps (along_to g.network.opts g.state (node_of v.key)) time spent → IsLater k time spent (transfers_to g v) last total → IsLater k so_far steps (edges_to g (node_of v.key)) last total
    later-parts so_far steps time spent last total x y = grind (arith, (edges-at g (node_of v.key) v labels named).0, fold-append (later (stored_time k)) so_far, length-append {A = Edge})
