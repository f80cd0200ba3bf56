-- A journal's messages are as many as its lines behind the header, and are all counted.
use Rattle.std.proofs.Common.{◌≡◌, ℕ, ◌+◌, ◌-◌, ◌<◌, Bool, true, false, List, [], ◌∷◌, ◌++◌, Option, Some, None, refl, nat_eq, nat_le, length, arith}
use Rattle.std.specs.Str.{bytes_eq}
use Rattle.std.proofs.lemmas.Bool.Decides.{nat_tests}
use Rattle.std.proofs.lemmas.List.{length-append}
use Rattle.delay_model.specs.declared.messages.Message.{Message}
use Rattle.information_service.specs.ServiceState.{ServiceState}
use Rattle.message_reader.specs.declared.wire.Wire.{Wire}
use Rattle.journal_replay.specs.Reading.{JournalProgress, accepted_wire, after_byte, after_bytes, byte_held, byte_read, header_taken, line_taken, long_from, wire_of_line, message_taken, nothing_read, taken_as}
use Rattle.journal_replay.specs.declared.refusal.JournalRefusal.{JournalRefusal}
use Rattle.journal_laws.proofs.Accepted.{accepted-leaves}

-- so far the messages are counted
pub record IsCounted (s : ServiceState) (p : JournalProgress) : Type 0 where
  pub messages : length p.messages ≡ p.lines - 1
  pub count : p.service.count ≡ s.count + (p.lines - 1)

module _ (s : ServiceState) where
  -- what is held does not matter, nor what was refused
  still : (p q : JournalProgress) → IsCounted s p → q.messages ≡ p.messages → q.lines ≡ p.lines → q.service ≡ p.service → IsCounted s q
  still p q is a b c = record { messages = rw (a, b) is.messages; count = rw (b, c) is.count }

  header-counted : (header ended : List ℕ) (p : JournalProgress) → IsCounted s p → p.lines ≡ 0 → (same : Bool)
      → bytes_eq ended header ≡ same → IsCounted s (header_taken header ended p)
  header-counted header ended p is first true same = rw same (record { messages = omega (arith, is.messages); count = omega (arith, is.count) })
  header-counted header ended p is first false other = rw other (record { messages = is.messages; count = is.count })

  taken-counted : (p : JournalProgress) (w : Wire) → IsCounted s p → 0 < p.lines → (o : Option Message) → accepted_wire p.service w ≡ o → IsCounted s (taken_as p w o)
  taken-counted p w is some None none = record { messages = is.messages; count = is.count }
  taken-counted p w is some (Some m) there = record {
    messages = omega (arith, is.messages, length-append p.messages (m ∷ []));
    count = omega (arith, is.count, (accepted-leaves p.service w m there).count);
  }

  message-counted : (p : JournalProgress) → IsCounted s p → 0 < p.lines → (o : Option Wire) → IsCounted s (message_taken p o)
  message-counted p is some None = record { messages = is.messages; count = is.count }
  message-counted p is some (Some w) = taken-counted p w is some (accepted_wire p.service w) refl

  line-counted : (header ended : List ℕ) (p : JournalProgress) → IsCounted s p → (first : Bool) → nat_eq p.lines 0 ≡ first → IsCounted s (line_taken header ended p)
  line-counted header ended p is true first =
      let none : p.lines ≡ 0 = grind (arith, nat_tests) in
      rw first (header-counted header ended p is none (bytes_eq ended header) refl)
  line-counted header ended p is false later =
      let some : 0 < p.lines = grind (arith, nat_tests) in
      rw later (message-counted p is some (wire_of_line ended))

  held-counted : (p : JournalProgress) (b : ℕ) → IsCounted s p → (long : Bool) → nat_le long_from (length p.held + 1) ≡ long → IsCounted s (byte_held b p)
  held-counted p b is true long = rw long (record { messages = is.messages; count = is.count })
  held-counted p b is false short = rw short (record { messages = is.messages; count = is.count })

  byte-counted : (header : List ℕ) (p : JournalProgress) (b : ℕ) → IsCounted s p → (o : Option JournalRefusal) (lf : Bool) → nat_eq b 10 ≡ lf → IsCounted s (byte_read header p b o)
  byte-counted header p b is (Some why) lf e = is
  byte-counted header p b is None true e = rw e (line-counted header (p.held ++ 10 ∷ []) p is (nat_eq p.lines 0) refl)
  byte-counted header p b is None false e = rw e (held-counted p b is (nat_le long_from (length p.held + 1)) refl)

  bytes-counted : (header : List ℕ) (p : JournalProgress) (bytes : List ℕ) → IsCounted s p → IsCounted s (after_bytes header p bytes)
  bytes-counted header p [] is = is
  bytes-counted header p (b ∷ bytes) is = bytes-counted header (after_byte header p b) bytes (byte-counted header p b is p.refusal (nat_eq b 10) refl)

-- the messages of a journal
pub journal-counted : (header : List ℕ) (s : ServiceState) (bytes : List ℕ) → IsCounted s (after_bytes header (nothing_read s) bytes)
journal-counted header s bytes = bytes-counted s header (nothing_read s) bytes (record { messages = refl; count = omega arith })
