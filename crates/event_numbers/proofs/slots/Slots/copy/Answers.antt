use Rattle.event_numbers.proofs.Words.{◌∙◌, arith}
use Rattle.event_numbers.proofs.slots.Slots.copy.Goals as goal

pub invariant_of-result : goal.invariant_of-result
invariant_of-result c =
    let records = c.in_ok-copy_with_room.ensures.items ∙ c.as_slice.ensures.value in
    let added = c.in_ok-copy_with_room-2.ensures.items ∙ c.as_slice-2.ensures.value in
    let rows = rw (← records, ← added) at c.self.invariant.records in
    let numbering = rw (← records, ← added) at c.self.invariant.numbering in
    grind (arith, records, added, rw (← added) at c.self.invariant.linked, c.self.invariant, rows, numbering, c.in_ok-copy_with_room.ensures, c.in_ok-copy_with_room-2.ensures)
