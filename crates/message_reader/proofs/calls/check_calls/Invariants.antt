use Rattle.std.proofs.Common.{◌≡◌, drop}
use Rattle.serde_json.specs.View.{items_view}
use Rattle.message_reader.specs.Messages.{calls_shape}
use Rattle.message_reader.proofs.calls.check_calls.Given as goal

abbrev pub invariant-loop-value : goal.invariant-loop-value
invariant-loop-value l = calls_shape (items_view (drop l.value-index l.values)) ≡ calls_shape (items_view l.values)
