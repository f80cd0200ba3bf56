-- A journal is read the same over networks that are alike, and never changes the network.
use Rattle.std.proofs.Common.{◌≡◌, ◌∙◌, ℕ, ◌+◌, Bool, true, false, List, [], ◌∷◌, ◌++◌, Option, Some, None, refl, sym, ap, subst, nat_eq, nat_le, length}
use Rattle.std.specs.Str.{bytes_eq}
use Rattle.delay_model.specs.declared.messages.Message.{Message}
use Rattle.delay_model.specs.declared.network.Network.{Network}
use Rattle.information_service.specs.Networks.{IsSame, over}
use Rattle.information_service.specs.ServiceState.{ServiceState}
use Rattle.information_service.proofs.Networks.{answer-same, same-back}
use Rattle.information_service.proofs.TimesAlike.{message-keeps, message-over}
use Rattle.message_reader.specs.declared.wire.Wire.{Wire}
use Rattle.message_reader.specs.Resolved.{resolved}
use Rattle.journal_replay.specs.Reading.{JournalProgress, accepted_wire, after_byte, after_bytes, byte_held, byte_read, header_taken, line_taken, long_from, wire_of_line, message_taken, taken_as}
use Rattle.journal_replay.specs.declared.refusal.JournalRefusal.{JournalRefusal}

-- so far a journal is read over another network
abbrev pub read_over : Network → JournalProgress → JournalProgress
read_over nw p =
    record { service = over nw p.service; messages = p.messages; lines = p.lines; held = p.held; refusal = p.refusal }

-- ---- a message

accepted-over : (nw : Network) (s : ServiceState) (w : Wire) → IsSame nw s.network → accepted_wire (over nw s) w ≡ accepted_wire s w
accepted-over nw s w same = answer-same s.network nw (same-back nw s.network same) s.state (resolved s.names w)

-- ---- a line

-- once a message is taken that leaves this service
abbrev taken_at : JournalProgress → Message → ServiceState → JournalProgress
taken_at p m s = record { service = s; messages = p.messages ++ m ∷ []; lines = p.lines + 1; held = []; refusal = None }

taken_as-over : (nw : Network) (p : JournalProgress) (w : Wire) (o : Option Message) → IsSame nw p.service.network → taken_as (read_over nw p) w o ≡ read_over nw (taken_as p w o)
taken_as-over nw p w None same = refl
taken_as-over nw p w (Some m) same = ap (taken_at p m) (message-over nw p.service w (resolved p.service.names w) same)

message_taken-over : (nw : Network) (p : JournalProgress) (o : Option Wire) → IsSame nw p.service.network → message_taken (read_over nw p) o ≡ read_over nw (message_taken p o)
message_taken-over nw p None same = refl
message_taken-over nw p (Some w) same =
    ap (taken_as (read_over nw p) w) (accepted-over nw p.service w same) ∙ taken_as-over nw p w (accepted_wire p.service w) same

header_taken-over : (nw : Network) (header ended : List ℕ) (p : JournalProgress) (is : Bool) → bytes_eq ended header ≡ is
    → header_taken header ended (read_over nw p) ≡ read_over nw (header_taken header ended p)
header_taken-over nw header ended p true is = rw is refl
header_taken-over nw header ended p false is = rw is refl

line_taken-over : (nw : Network) (header ended : List ℕ) (p : JournalProgress) (first : Bool) → nat_eq p.lines 0 ≡ first → IsSame nw p.service.network
    → line_taken header ended (read_over nw p) ≡ read_over nw (line_taken header ended p)
line_taken-over nw header ended p true is same = rw is (header_taken-over nw header ended p (bytes_eq ended header) refl)
line_taken-over nw header ended p false is same = rw is (message_taken-over nw p (wire_of_line ended) same)

-- the network stays
taken_as-keeps : (p : JournalProgress) (w : Wire) (o : Option Message) → (taken_as p w o).service.network ≡ p.service.network
taken_as-keeps p w None = refl
taken_as-keeps p w (Some m) = message-keeps p.service w (resolved p.service.names w)

message_taken-keeps : (p : JournalProgress) (o : Option Wire) → (message_taken p o).service.network ≡ p.service.network
message_taken-keeps p None = refl
message_taken-keeps p (Some w) = taken_as-keeps p w (accepted_wire p.service w)

header_taken-keeps : (header ended : List ℕ) (p : JournalProgress) (is : Bool) → bytes_eq ended header ≡ is → (header_taken header ended p).service.network ≡ p.service.network
header_taken-keeps header ended p true is = rw is refl
header_taken-keeps header ended p false is = rw is refl

line_taken-keeps : (header ended : List ℕ) (p : JournalProgress) (first : Bool) → nat_eq p.lines 0 ≡ first → (line_taken header ended p).service.network ≡ p.service.network
line_taken-keeps header ended p true is = rw is (header_taken-keeps header ended p (bytes_eq ended header) refl)
line_taken-keeps header ended p false is = rw is (message_taken-keeps p (wire_of_line ended))

-- ---- a byte

held-over : (nw : Network) (p : JournalProgress) (b : ℕ) (long : Bool) → nat_le long_from (length p.held + 1) ≡ long → byte_held b (read_over nw p) ≡ read_over nw (byte_held b p)
held-over nw p b true is = rw is refl
held-over nw p b false is = rw is refl

held-keeps : (p : JournalProgress) (b : ℕ) (long : Bool) → nat_le long_from (length p.held + 1) ≡ long → (byte_held b p).service.network ≡ p.service.network
held-keeps p b true is = rw is refl
held-keeps p b false is = rw is refl

byte-over : (nw : Network) (header : List ℕ) (p : JournalProgress) (b : ℕ) (o : Option JournalRefusal) (lf : Bool) → nat_eq b 10 ≡ lf → IsSame nw p.service.network
    → byte_read header (read_over nw p) b o ≡ read_over nw (byte_read header p b o)
byte-over nw header p b (Some why) lf is same = refl
byte-over nw header p b None true is same = rw is (line_taken-over nw header _ p (nat_eq p.lines 0) refl same)
byte-over nw header p b None false is same = rw is (held-over nw p b _ refl)

byte-keeps : (header : List ℕ) (p : JournalProgress) (b : ℕ) (o : Option JournalRefusal) (lf : Bool) → nat_eq b 10 ≡ lf → (byte_read header p b o).service.network ≡ p.service.network
byte-keeps header p b (Some why) lf is = refl
byte-keeps header p b None true is = rw is (line_taken-keeps header _ p (nat_eq p.lines 0) refl)
byte-keeps header p b None false is = rw is (held-keeps p b _ refl)

-- ---- bytes

pub bytes-keep : (header : List ℕ) (p : JournalProgress) (bytes : List ℕ) → (after_bytes header p bytes).service.network ≡ p.service.network
bytes-keep header p [] = refl
bytes-keep header p (b ∷ bytes) = bytes-keep header (after_byte header p b) bytes ∙ byte-keeps header p b p.refusal (nat_eq b 10) refl

pub bytes-over : (nw : Network) (header : List ℕ) (p : JournalProgress) (bytes : List ℕ) → IsSame nw p.service.network
    → after_bytes header (read_over nw p) bytes ≡ read_over nw (after_bytes header p bytes)
bytes-over nw header p [] same = refl
bytes-over nw header p (b ∷ bytes) same =
    ap (λ (q : JournalProgress). after_bytes header q bytes) (byte-over nw header p b p.refusal (nat_eq b 10) refl same)
    ∙ bytes-over nw header (after_byte header p b) bytes (subst (IsSame nw) (sym (byte-keeps header p b p.refusal (nat_eq b 10) refl)) same)
