-- No edge waits longer than the rules say.
use Rattle.edge_rules.proofs.Words.{Bool, found-there, Some, ◌≡◌, elements, train_edges-each, transfers-each, wait_of, All-contains, ℕ, ◌≤◌, List, find, arith, All, All-append, All-nil, All-filter, Node, RuleRow, Network, Event, Edge, edges, transfer, override_of, wait_between, events, wait, edges_to, edges_from, GraphState}
use Rattle.edge_rules.proofs.Given.{at-each}

-- no rule makes a train wait longer
abbrev pub AreWithin : ℕ → List RuleRow → Type 0
AreWithin longest rules = All (λ (rule : RuleRow). rule.max_wait ≤ longest) rules

pub wait-within : (longest : ℕ) (nw : Network) (u v : Event) → AreWithin longest nw.rules → wait_between nw u v ≤ longest
unfolding wait
wait-within longest nw u v h =
    grind (arith, λ (p : RuleRow → Bool) (r : RuleRow) (e : find p nw.rules ≡ Some r). All-contains (λ (rule : RuleRow). rule.max_wait ≤ longest) nw.rules r h (found-there p nw.rules r e).0)

-- the edges at an event
pub short-at : (g : GraphState) → AreWithin 86400 g.network.rules → (n : Node) → All (λ e. wait_of e.kind ≤ 86400) (edges_to g n) × All (λ e. wait_of e.kind ≤ 86400) (edges_from g n)
unfolding edges transfer
short-at g h =
    let P : Edge → Type 0 = λ e. wait_of e.kind ≤ 86400 in
    let between = transfers-each g.network (override_of g.state) (events g.state) P (λ u v _ _. grind (arith, elements, wait-within 86400 g.network u v h)) in
    at-each (All P) g (All-nil P) (λ p. All-filter p P) (All-append P _ _ (train_edges-each g.network.opts g.state P (λ u v h. omega arith)) between)
