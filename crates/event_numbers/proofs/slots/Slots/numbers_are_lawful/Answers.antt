use Rattle.event_numbers.proofs.slots.Slots.numbers_are_lawful.Goals as goal

pub returns-clause-taken : goal.returns-clause-taken
returns-clause-taken c = rw (← c.self.view_is) c.self.invariant.numbering.taken
