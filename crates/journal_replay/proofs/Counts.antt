-- How many messages are taken: no more than lines, and than bytes.
use Rattle.std.proofs.Common.{◌≡◌, ◌≤◌, ℕ, ◌+◌, Bool, true, false, List, [], ◌∷◌, Option, Some, None, refl, nat_eq, nat_le, length, arith}
use Rattle.std.specs.Str.{bytes_eq}
use Rattle.delay_model.specs.declared.messages.Message.{Message}
use Rattle.information_service.proofs.OneMore.{few-message}
use Rattle.message_reader.specs.declared.wire.Wire.{Wire}
use Rattle.message_reader.specs.Resolved.{resolved}
use Rattle.journal_replay.specs.Reading.{JournalProgress, accepted_wire, after_byte, after_bytes, byte_held, byte_read, header_taken, line_taken, long_from, wire_of_line, message_taken, taken_as}
use Rattle.journal_replay.specs.declared.refusal.JournalRefusal.{JournalRefusal}

taken_as-counts : (p : JournalProgress) (w : Wire) (o : Option Message) → (taken_as p w o).service.count ≤ p.service.count + 1
taken_as-counts p w None = omega arith
taken_as-counts p w (Some m) = few-message p.service w (resolved p.service.names w)

message_taken-counts : (p : JournalProgress) (o : Option Wire) → (message_taken p o).service.count ≤ p.service.count + 1
message_taken-counts p None = omega arith
message_taken-counts p (Some w) = taken_as-counts p w (accepted_wire p.service w)

header_taken-counts : (header ended : List ℕ) (p : JournalProgress) (is : Bool) → bytes_eq ended header ≡ is → (header_taken header ended p).service.count ≤ p.service.count + 1
header_taken-counts header ended p true is = rw is (omega arith)
header_taken-counts header ended p false is = rw is (omega arith)

line-counts-by : (header ended : List ℕ) (p : JournalProgress) (first : Bool) → nat_eq p.lines 0 ≡ first → (line_taken header ended p).service.count ≤ p.service.count + 1
line-counts-by header ended p true is = rw is (header_taken-counts header ended p (bytes_eq ended header) refl)
line-counts-by header ended p false is = rw is (message_taken-counts p (wire_of_line ended))

-- a line counts one message more at most
pub line-counts : (header ended : List ℕ) (p : JournalProgress) → (line_taken header ended p).service.count ≤ p.service.count + 1
line-counts header ended p = line-counts-by header ended p (nat_eq p.lines 0) refl

held-counts : (p : JournalProgress) (b : ℕ) (long : Bool) → nat_le long_from (length p.held + 1) ≡ long → (byte_held b p).service.count ≤ p.service.count + 1
held-counts p b true is = rw is (omega arith)
held-counts p b false is = rw is (omega arith)

byte-counts : (header : List ℕ) (p : JournalProgress) (b : ℕ) (o : Option JournalRefusal) (lf : Bool) → nat_eq b 10 ≡ lf → (byte_read header p b o).service.count ≤ p.service.count + 1
byte-counts header p b (Some why) lf is = omega arith
byte-counts header p b None true is = rw is (line-counts header _ p)
byte-counts header p b None false is = rw is (held-counts p b _ refl)

-- and so does a byte
pub bytes-count : (header : List ℕ) (p : JournalProgress) (bytes : List ℕ) → (after_bytes header p bytes).service.count ≤ p.service.count + length bytes
bytes-count header p [] = omega arith
bytes-count header p (b ∷ bytes) =
    let q = after_byte header p b in
    omega (arith, bytes-count header q bytes, byte-counts header p b p.refusal (nat_eq b 10) refl)
