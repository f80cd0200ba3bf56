use Rattle.event_numbers.proofs.Words.{arith}
use Rattle.event_numbers.proofs.SlotLemmas.{rows}
use Rattle.event_numbers.proofs.StoredSlotLemmas.{IsAdded, added-seen, added-stored}
use Rattle.event_numbers.proofs.slots.Slots.add_call.Goals as goal

pub next_entry-entry-requires : goal.next_entry-entry-requires
next_entry-entry-requires c = rw c.deref.ensures.value (grind (arith, rows))

added : (c : goal.After-self-3-1) → IsAdded c.args.t c.get.result c.len.result c.index_mut-row.result.now c.next_entry-entry.result c.push_reserved.new.self c.self.inside
added c = grind (arith, rows, c.self.view_is, c.requires, rw c.deref.ensures.value at c.next_entry-entry.ensures.link)

pub invariant_of-self : goal.invariant_of-self
invariant_of-self c = added-stored (added c)

pub returns : goal.returns
returns c = grind (arith, added-seen (added c), c.self.view_is)
