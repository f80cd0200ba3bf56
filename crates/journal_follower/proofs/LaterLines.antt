-- Bytes of a journal that are read: no message is taken back, and no more messages are taken than
-- lines.
use Rattle.std.proofs.Common.{◌≡◌, ℕ, ◌+◌, ◌≤◌, ◌∷◌, ◌++◌, [], List, length, nat_eq, nat_le, Option, Some, None, inl, inr, refl, sym, ◌∙◌, ap, arith, append_assoc}
use Rattle.std.proofs.lemmas.Bool.{cases_Bool}
use Rattle.std.proofs.lemmas.List.{append-nil, length-append}
use Rattle.std.specs.Str.{bytes_eq}
use mathlib.Core.List.{IsPrefix}
use Rattle.delay_model.specs.declared.messages.Message.{Message}
use Rattle.journal_replay.specs.Reading.{JournalProgress, accepted_wire, after_byte, after_bytes, byte_held, byte_read, line_taken, long_from, wire_of_line, message_taken, taken_as}
use Rattle.journal_replay.specs.declared.refusal.JournalRefusal.{JournalRefusal}
use Rattle.message_reader.specs.declared.wire.Wire.{Wire}

-- the second is behind the first
pub record IsLater (p q : JournalProgress) : Type 0 where
  pub begins : IsPrefix p.messages q.messages
  pub few : length p.messages ≤ p.lines → length q.messages ≤ q.lines

later-trans : (p q r : JournalProgress) → IsLater p q → IsLater q r → IsLater p r
later-trans p q r h k = record {
  begins = (h.begins.0 ++ k.begins.0, sym (append_assoc p.messages h.begins.0 k.begins.0) ∙ ap (λ (l : List Message). l ++ k.begins.0) h.begins.1 ∙ k.begins.1);
  few = λ few. k.few (h.few few);
}

-- the same messages, and no fewer lines
later-same : (p q : JournalProgress) → q.messages ≡ p.messages → p.lines ≤ q.lines → IsLater p q
later-same p q same lines = record {
  begins = ([], append-nil p.messages ∙ sym same);
  few = λ few. omega (arith, ap length same);
}

later-taken : (p : JournalProgress) (w : Wire) (o : Option Message) → IsLater p (taken_as p w o)
later-taken p w None = later-same p (taken_as p w None) refl (omega arith)
later-taken p w (Some m) = record {
  begins = (m ∷ [], refl);
  few = λ few. omega (arith, length-append p.messages (m ∷ []));
}

later-message : (p : JournalProgress) (o : Option Wire) → IsLater p (message_taken p o)
later-message p None = later-same p (message_taken p None) refl (omega arith)
later-message p (Some w) = later-taken p w (accepted_wire p.service w)

later-line : (header ended : List ℕ) (p : JournalProgress) → IsLater p (line_taken header ended p)
later-line header ended p = elim (cases_Bool (nat_eq p.lines 0)) [
  | inl first ↦ elim (cases_Bool (bytes_eq ended header)) [
    | inl same ↦ rw (first, same) (later-same p _ refl (omega arith))
    | inr other ↦ rw (first, other) (later-same p _ refl (omega arith))
  ]
  | inr later ↦ rw later (later-message p (wire_of_line ended))
]

later-held : (p : JournalProgress) (b : ℕ) → IsLater p (byte_held b p)
later-held p b = elim (cases_Bool (nat_le long_from (length p.held + 1))) [
  | inl long ↦ rw long (later-same p _ refl (omega arith))
  | inr short ↦ rw short (later-same p _ refl (omega arith))
]

later-read : (header : List ℕ) (p : JournalProgress) (b : ℕ) (o : Option JournalRefusal) → IsLater p (byte_read header p b o)
later-read header p b (Some why) = later-same p p refl (omega arith)
later-read header p b None = elim (cases_Bool (nat_eq b 10)) [
  | inl is ↦ rw is (later-line header (p.held ++ 10 ∷ []) p)
  | inr other ↦ rw other (later-held p b)
]

-- behind bytes the messages before them are still there, and no more than lines
pub later-bytes : (header : List ℕ) (p : JournalProgress) (bytes : List ℕ) → IsLater p (after_bytes header p bytes)
later-bytes header p [] = later-same p p refl (omega arith)
later-bytes header p (b ∷ bytes) =
    let q : JournalProgress = after_byte header p b in
    later-trans p q (after_bytes header q bytes) (later-read header p b p.refusal) (later-bytes header q bytes)
