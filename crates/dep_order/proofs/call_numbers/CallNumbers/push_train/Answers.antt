use Rattle.dep_order.proofs.CallLemmas.{pushed-seen}
use Rattle.dep_order.proofs.call_numbers.CallNumbers.push_train.Goals as goal

pub returns : goal.returns
returns c = rw (← c.self.view_is, c.push_train.ensures.slots, pushed-seen c.self.inside c.args.labels c.self.invariant)
