use Rattle.event_numbers.proofs.StoredSlotLemmas.{pushed-stored}
use Rattle.event_numbers.proofs.slots.Slots.push_train.Goals as goal

pub invariant_of-self : goal.invariant_of-self
invariant_of-self c = pushed-stored _ _ _ c.self.invariant c.push_reserved.ensures.items c.push_reserved.ensures.capacity (rw (← c.self.view_is) at c.requires.train_spare) (rw (← c.self.view_is) at c.requires.calls_spare) c.requires.some
