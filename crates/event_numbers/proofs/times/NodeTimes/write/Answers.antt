use Rattle.event_numbers.proofs.Words.{◌∙◌, ap, time_of}
use Rattle.event_numbers.proofs.TimeLemmas.{with_time-law}
use Rattle.event_numbers.proofs.SlotTimeLemmas.{written-seen}
use Rattle.event_numbers.proofs.times.NodeTimes.write.Goals as goal

pub returns-clause-stored : goal.returns-clause-stored
returns-clause-stored c = rw (← c.self.view_is, written-seen c.self.invariant c.number_of-number.ensures c.numbers_are_lawful.ensures.once c.args.t)

pub returns-clause-time : goal.returns-clause-time
returns-clause-time c = λ m. ap (λ k. time_of k m) (returns-clause-stored c) ∙ with_time-law c.args.self.now c.args.n m c.args.t c.requires
