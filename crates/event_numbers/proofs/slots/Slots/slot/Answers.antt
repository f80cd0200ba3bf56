use Rattle.event_numbers.proofs.Words.{arith}
use Rattle.event_numbers.proofs.LinkLemmas.{links}
use Rattle.event_numbers.proofs.SlotLemmas.{rows}
use Rattle.event_numbers.proofs.slots.Slots.slot.Goals as goal

pub find-requires : goal.find-requires
find-requires c = rw c.deref-2.ensures.value (grind (arith, links, rows, rw c.deref.ensures.value at c.entry_at-last.ensures))
