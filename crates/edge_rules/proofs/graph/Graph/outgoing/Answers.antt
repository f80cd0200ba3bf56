use Rattle.edge_rules.proofs.Words.{arith}
use Rattle.edge_rules.proofs.GraphLemmas.{edges-found}
use Rattle.edge_rules.proofs.graph.Graph.outgoing.Goals as goal

pub returns : goal.returns
returns c = grind (arith, edges-found c.self.invariant c.self.view_is c.live_event-at.ensures.there)
