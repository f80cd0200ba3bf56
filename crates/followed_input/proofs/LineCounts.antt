-- How many lines of a journal are taken: no more than bytes.
use Rattle.std.proofs.Common.{◌≤◌, ℕ, ◌+◌, ◌++◌, List, [], ◌∷◌, Option, Some, None, nat_eq, nat_le, length, arith, inl, inr}
use Rattle.std.proofs.lemmas.Bool.{cases_Bool}
use Rattle.std.specs.Str.{bytes_eq}
use Rattle.delay_model.specs.declared.messages.Message.{Message}
use Rattle.journal_replay.specs.Reading.{JournalProgress, accepted_wire, after_byte, after_bytes, byte_held, byte_read, line_taken, long_from, message_taken, taken_as, wire_of_line}
use Rattle.journal_replay.specs.declared.refusal.JournalRefusal.{JournalRefusal}
use Rattle.message_reader.specs.declared.wire.Wire.{Wire}

taken-lines : (p : JournalProgress) (w : Wire) (o : Option Message) → (taken_as p w o).lines ≤ p.lines + 1
taken-lines p w None = omega arith
taken-lines p w (Some m) = omega arith

message-lines : (p : JournalProgress) (o : Option Wire) → (message_taken p o).lines ≤ p.lines + 1
message-lines p None = omega arith
message-lines p (Some w) = taken-lines p w (accepted_wire p.service w)

line-lines : (header ended : List ℕ) (p : JournalProgress) → (line_taken header ended p).lines ≤ p.lines + 1
line-lines header ended p = elim (cases_Bool (nat_eq p.lines 0)) [
  | inl first ↦ elim (cases_Bool (bytes_eq ended header)) [
    | inl same ↦ rw (first, same) (omega arith)
    | inr other ↦ rw (first, other) (omega arith)
  ]
  | inr later ↦ rw later (message-lines p (wire_of_line ended))
]

held-lines : (p : JournalProgress) (b : ℕ) → (byte_held b p).lines ≤ p.lines + 1
held-lines p b = elim (cases_Bool (nat_le long_from (length p.held + 1))) [
  | inl long ↦ rw long (omega arith)
  | inr short ↦ rw short (omega arith)
]

byte-lines : (header : List ℕ) (p : JournalProgress) (b : ℕ) (o : Option JournalRefusal) → (byte_read header p b o).lines ≤ p.lines + 1
byte-lines header p b (Some why) = omega arith
byte-lines header p b None = elim (cases_Bool (nat_eq b 10)) [
  | inl is ↦ rw is (line-lines header (p.held ++ 10 ∷ []) p)
  | inr other ↦ rw other (held-lines p b)
]

-- a byte ends one line at most
pub bytes-lines : (header : List ℕ) (p : JournalProgress) (bytes : List ℕ) → (after_bytes header p bytes).lines ≤ p.lines + length bytes
bytes-lines header p [] = omega arith
bytes-lines header p (b ∷ bytes) =
    let q : JournalProgress = after_byte header p b in
    omega (arith, bytes-lines header q bytes, byte-lines header p b p.refusal)
