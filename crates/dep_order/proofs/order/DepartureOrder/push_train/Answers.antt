use Rattle.dep_order.proofs.CallLemmas.{pushed-stays}
use Rattle.dep_order.proofs.InsideLemmas.{noted-ordered}
use Rattle.dep_order.proofs.order.DepartureOrder.push_train.Goals as goal

pub invariant_of-self : goal.invariant_of-self
invariant_of-self c =
    let a = c.self.inside in
    noted-ordered a c.self.invariant c.push_train.new.self (rw c.push_train.ensures (pushed-stays c.args.labels a.numbers))
