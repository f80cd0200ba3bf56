use Rattle.std.proofs.Common.{◌≡◌, drop}
use Rattle.serde_json.specs.View.{items_view}
use Rattle.message_reader.specs.Claims.{reach_of}
use Rattle.message_reader.specs.Items.{items_read}
use Rattle.message_reader.proofs.Rest.{with_front}
use Rattle.message_reader.proofs.claim_reached.read_reached.Given as goal

abbrev pub invariant-loop-value : goal.invariant-loop-value
invariant-loop-value l = with_front l.reached.items (items_read (reach_of l.dir l.day) (items_view (drop l.value-index l.values))) ≡ items_read (reach_of l.dir l.day) (items_view l.values)
