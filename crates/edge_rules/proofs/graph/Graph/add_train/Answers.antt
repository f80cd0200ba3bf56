use Rattle.edge_rules.proofs.InsideLemmas.{extra-keeps}
use Rattle.edge_rules.proofs.graph.Graph.add_train.Goals as goal

pub invariant_of-self : goal.invariant_of-self
invariant_of-self c =
    let is = c.add_train-number.ensures.train in
    rw (c.insert_train.ensures, c.add_train-number.ensures.number, is) (extra-keeps c.self.invariant c.self.view_is c.args.day c.args.route c.args.calls.now c.requires.calls_spare c.requires.stops (rw is at c.labels_are_distinct.ensures.labels)).consistent
