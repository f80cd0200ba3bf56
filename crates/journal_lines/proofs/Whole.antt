-- The texts of messages and headers are known byte by byte.
use Rattle.std.proofs.Common.{◌≡◌, ℕ, List, Option, false, Some, None, refl}
use Rattle.serde_json.specs.Written.{has_float}
use Rattle.message_reader.specs.declared.wire.Wire.{Wire}
use Rattle.message_reader.specs.declared.wire.Wire.TheVariants.{Event, Correct, Withdraw, Cancel, Reroute, Extra, Connect}
use Rattle.message_reader.specs.Spelled.{object_of}
use Rattle.journal_lines.specs.declared.heads.Head.{Head}
use Rattle.journal_lines.specs.Lines.{head_object, zone_or_null}
use Rattle.journal_lines.proofs.Calls.{calls_are_whole}

-- no message holds a floating-point number
pub messages_are_whole : (w : Wire) → has_float (object_of 2 w) ≡ false
messages_are_whole (Event kind trip date call dep secs) = refl
messages_are_whole (Correct trip date call dep None) = refl
messages_are_whole (Correct trip date call dep (Some secs)) = refl
messages_are_whole (Withdraw trip date call dep) = refl
messages_are_whole (Cancel trip date from to) = refl
messages_are_whole (Reroute trip date from to via) = rw (calls_are_whole via) refl
messages_are_whole (Extra trip date route calls) = rw (calls_are_whole calls) refl
messages_are_whole (Connect kind feeder train) = refl

-- nor a zone
zone-is-whole : (zone : Option (List ℕ)) → has_float (zone_or_null zone) ≡ false
zone-is-whole None = refl
zone-is-whole (Some zone) = refl

-- nor a header
pub heads_are_whole : (h : Head) → has_float (head_object h) ≡ false
heads_are_whole h = rw (zone-is-whole h.zone) refl
