use Rattle.std.proofs.Common.{◌≡◌, drop, length, All}
use Rattle.delay_model.specs.Messages.{IsSmallCall}
use Rattle.message_reader.specs.Resolved.{new_calls}
use Rattle.message_reader.proofs.Rest.{with_front}
use Rattle.message_reader.proofs.numbers.new_calls.Given as goal

abbrev pub invariant-loop-wire_call : goal.invariant-loop-wire_call
invariant-loop-wire_call l =
    (with_front l.calls.items (new_calls l.dir l.day (drop l.wire_call-index l.wire_calls)) ≡ new_calls l.dir l.day l.wire_calls)
    × All IsSmallCall l.calls.items
    × (length l.calls.items ≡ l.wire_call-index)
