use Rattle.edge_rules.proofs.InsideLemmas.{reroute-keeps}
use Rattle.edge_rules.proofs.graph.Graph.reroute.Goals as goal

pub invariant_of-self : goal.invariant_of-self
invariant_of-self c =
    let is = c.reroute.ensures in
    rw (is, c.insert_calls.ensures, c.get.ensures, c.remove_between.ensures) (reroute-keeps c.self.invariant c.self.view_is c.args.t c.args.from c.args.to c.requires.stand c.args.via.now c.next_label.result c.requires.spare c.requires.stops (rw is at c.labels_are_distinct.ensures.labels) (rw is at c.next_label.ensures.label)).consistent
