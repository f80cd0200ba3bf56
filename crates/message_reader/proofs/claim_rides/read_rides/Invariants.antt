use Rattle.std.proofs.Common.{◌≡◌, drop}
use Rattle.serde_json.specs.View.{items_view}
use Rattle.message_reader.specs.Claims.{ride_of}
use Rattle.message_reader.specs.Items.{items_read}
use Rattle.message_reader.proofs.Rest.{with_front}
use Rattle.message_reader.proofs.claim_rides.read_rides.Given as goal

abbrev pub invariant-loop-value : goal.invariant-loop-value
invariant-loop-value l = with_front l.rides.items (items_read ride_of (items_view (drop l.value-index l.values))) ≡ items_read ride_of (items_view l.values)
