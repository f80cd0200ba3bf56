use Rattle.event_numbers.proofs.Words.{◌≡◌, with_more}
use Rattle.event_numbers.proofs.slots.Slots.add_calls.Given as goal

abbrev pub invariant-loop : goal.invariant-loop
invariant-loop l = l.self ≡ with_more l.t l.counter l.fn.self
