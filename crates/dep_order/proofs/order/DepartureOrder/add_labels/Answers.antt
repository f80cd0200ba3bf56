use Rattle.dep_order.proofs.CallLemmas.{added-labels, added-stays}
use Rattle.dep_order.proofs.InsideLemmas.{noted-ordered}
use Rattle.dep_order.proofs.order.DepartureOrder.add_labels.Goals as goal

pub invariant_of-self : goal.invariant_of-self
invariant_of-self c =
    let a = c.self.inside in
    noted-ordered a c.self.invariant c.add_labels.new.self (rw c.add_labels.ensures (added-stays c.args.t c.args.labels a.numbers))

pub returns-clause-labels : goal.returns-clause-labels
returns-clause-labels c = rw (← c.self.view_is, c.add_labels.ensures) (added-labels c.args.t c.args.labels c.self.inside.numbers)
