use Rattle.event_numbers.proofs.SlotTimeLemmas.{labels-more}
use Rattle.event_numbers.proofs.times.NodeTimes.add_labels.Goals as goal

pub returns : goal.returns
returns c = rw (← c.self.view_is, c.add_calls.ensures.slots, labels-more c.self.inside c.args.t c.args.labels c.self.invariant)
