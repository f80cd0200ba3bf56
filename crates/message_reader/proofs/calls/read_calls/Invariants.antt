use Rattle.std.proofs.Common.{◌≡◌, drop, length, All}
use Rattle.serde_json.specs.View.{items_view}
use Rattle.message_reader.specs.Messages.{calls_of}
use Rattle.message_reader.specs.Wires.{IsWireCall}
use Rattle.message_reader.proofs.Rest.{with_front}
use Rattle.message_reader.proofs.calls.read_calls.Given as goal

abbrev pub invariant-loop-value : goal.invariant-loop-value
invariant-loop-value l =
    (with_front l.calls.items (calls_of (items_view (drop l.value-index l.values))) ≡ calls_of (items_view l.values))
    × All IsWireCall l.calls.items
    × (length l.calls.items ≡ l.value-index)
