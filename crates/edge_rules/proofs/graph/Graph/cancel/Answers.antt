use Rattle.edge_rules.proofs.InsideLemmas.{cancel-keeps}
use Rattle.edge_rules.proofs.graph.Graph.cancel.Goals as goal

pub invariant_of-self : goal.invariant_of-self
invariant_of-self c =
    rw (c.cancel.ensures, c.remove_stretch.ensures) (cancel-keeps c.self.invariant c.self.view_is c.args.t c.args.from c.args.to c.requires (rw c.cancel.ensures at c.labels_are_distinct.ensures.labels))
