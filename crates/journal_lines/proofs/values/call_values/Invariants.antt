use Rattle.std.proofs.Common.{◌≡◌, ◌++◌, map, drop}
use Rattle.serde_json.specs.View.{view, items_of}
use Rattle.message_reader.specs.Spelled.{call_object, call_objects}
use Rattle.journal_lines.proofs.values.call_values.Given as goal

abbrev pub invariant-loop-call : goal.invariant-loop-call
invariant-loop-call l = items_of (map view l.values.items ++ map call_object (drop l.call-index l.calls)) ≡ call_objects l.calls
