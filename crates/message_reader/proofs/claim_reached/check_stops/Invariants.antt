use Rattle.std.proofs.Common.{◌≡◌, drop}
use Rattle.serde_json.specs.View.{items_view}
use Rattle.message_reader.specs.Claims.{reach_stop}
use Rattle.message_reader.specs.Items.{items_shape}
use Rattle.message_reader.proofs.claim_reached.check_stops.Given as goal

abbrev pub invariant-loop-value : goal.invariant-loop-value
invariant-loop-value l = items_shape (reach_stop l.dir) (items_view (drop l.value-index l.values)) ≡ items_shape (reach_stop l.dir) (items_view l.values)
