use Rattle.edge_rules.proofs.ShortWaits.{short-at}
use Rattle.edge_rules.proofs.graph.Graph.waits_are_short.Goals as goal

pub returns : goal.returns
returns c = rw (← c.self.view_is) (record { incoming = λ n. (short-at _ c.waits_are_short.ensures n).0; outgoing = λ n. (short-at _ c.waits_are_short.ensures n).1 })
