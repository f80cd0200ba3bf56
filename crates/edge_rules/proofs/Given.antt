-- What holds of the edges at an event.
use Rattle.edge_rules.proofs.Words.{arith, List, [], Bool, filter, is_same, Node, Event, Edge, edges, edges_from, edges_to, incoming, outgoing, GraphState}

-- what holds of all edges, and of those of them that pass a test, holds of the edges at an event
pub at-each : (P : List Edge → Type 0) (g : GraphState) → P [] → ((p : Edge → Bool) (es : List Edge) → P es → P (filter p es)) → P (edges g.network g.state) → (n : Node) → P (edges_to g n) × P (edges_from g n)
unfolding incoming outgoing
at-each P g none keeps all n = grind (arith, none, λ (v : Event). keeps (λ e. is_same e.to v.key) _ all, λ (v : Event). keeps (λ e. is_same e.from v.key) _ all)
