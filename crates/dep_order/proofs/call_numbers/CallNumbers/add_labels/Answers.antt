use Rattle.dep_order.proofs.CallLemmas.{added-seen}
use Rattle.dep_order.proofs.call_numbers.CallNumbers.add_labels.Goals as goal

pub returns : goal.returns
returns c = rw (← c.self.view_is, c.add_calls.ensures.slots, added-seen c.self.inside c.args.t c.args.labels c.self.invariant)
