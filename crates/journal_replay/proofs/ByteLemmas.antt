-- How bytes are read: those that end no line are held, up to a bound, and an LF takes the line.
use Rattle.std.proofs.Common.{◌≡◌, ◌≢◌, ℕ, ◌+◌, ◌<◌, ◌≤◌, true, false, nat_eq, nat_le, List, [], ◌∷◌, ◌++◌, length}
use Rattle.std.proofs.Common.{Option, Some, None, inl, inr, refl, sym, ap, ◌∙◌, append_assoc, append-nil, arith}
use Rattle.std.specs.Str.{bytes_eq}
use Rattle.std.proofs.lemmas.Bool.{cases_Bool, cases_eq, cases_lt}
use Rattle.std.proofs.lemmas.Bool.Decides.{nat_tests}
use Rattle.std.proofs.lemmas.List.{length-append}
use Rattle.std.proofs.lemmas.List.Sums.{fold-append}
use Rattle.delay_model.specs.declared.messages.Message.{Message}
use Rattle.message_reader.specs.declared.wire.Wire.{Wire}
use Rattle.mt_io.specs.Steps.{HasNoLf}
use Rattle.journal_replay.specs.Journals.{held_at_end}
use Rattle.journal_replay.specs.Reading.{JournalProgress, accepted_wire, after_byte, after_bytes, byte_read, line_refused, line_taken, long_from}
use Rattle.journal_replay.specs.Reading.{wire_of_line, message_taken, taken_as}
use Rattle.journal_replay.specs.declared.refusal.JournalRefusal.{JournalRefusal}

-- ---- bytes behind others

pub read-append : (header : List ℕ) (p : JournalProgress) (first second : List ℕ)
    → after_bytes header p (first ++ second) ≡ after_bytes header (after_bytes header p first) second
read-append header p first second = fold-append (after_byte header) p first second

-- behind a refusal nothing is read
pub refused-stays : (header : List ℕ) (p : JournalProgress) (why : JournalRefusal) (bytes : List ℕ) → p.refusal ≡ Some why → after_bytes header p bytes ≡ p
refused-stays header p why [] is = refl
refused-stays header p why (b ∷ bytes) is =
    let same : after_byte header p b ≡ p = ap (byte_read header p b) is in
    ap (λ (q : JournalProgress). after_bytes header q bytes) same ∙ refused-stays header p why bytes is

-- ---- a byte

-- where a byte is read, nothing was refused
byte-read : (header : List ℕ) (p : JournalProgress) (b : ℕ) → p.refusal ≡ None → after_byte header p b ≡ byte_read header p b None
byte-read header p b none = ap (byte_read header p b) none

-- a byte that ends no line is held
pub byte-held : (header : List ℕ) (p : JournalProgress) (b : ℕ) → p.refusal ≡ None → b ≢ 10 → length p.held + 1 < long_from
    → after_byte header p b ≡ held_at_end p (p.held ++ b ∷ [])
byte-held header p b none ne few =
    let other : nat_eq b 10 ≡ false = grind (arith, nat_tests) in
    let short : nat_le long_from (length p.held + 1) ≡ false = grind (arith, nat_tests) in
    byte-read header p b none ∙ rw (other, short) refl

-- or the line gets too long
pub byte-too-long : (header : List ℕ) (p : JournalProgress) (b : ℕ) → p.refusal ≡ None → b ≢ 10 → long_from ≤ length p.held + 1
    → after_byte header p b ≡ line_refused p
byte-too-long header p b none ne many =
    let other : nat_eq b 10 ≡ false = grind (arith, nat_tests) in
    let long : nat_le long_from (length p.held + 1) ≡ true = grind (arith, nat_tests) in
    byte-read header p b none ∙ rw (other, long) refl

-- an LF takes the line
pub lf-read : (header : List ℕ) (p : JournalProgress) → p.refusal ≡ None → after_byte header p 10 ≡ line_taken header (p.held ++ 10 ∷ []) p
lf-read header p none = byte-read header p 10 none

-- ---- bytes without an LF

-- such bytes begin with another byte, and go on with such bytes
pub no_lf-parts : (b : ℕ) (bytes : List ℕ) → HasNoLf (b ∷ bytes) → (b ≢ 10) × HasNoLf bytes
no_lf-parts b bytes none = elim (cases_eq b 10) [
  | inl is ↦ let bad : [] ≡ 10 ∷ bytes = rw is at none in cc
  | inr ne ↦ let other : nat_eq b 10 ≡ false = grind (arith, nat_tests) in let e = rw other at none in (ne, cc)
]

-- they are held, if the line stays short
pub bytes-held : (header : List ℕ) (p : JournalProgress) (bytes : List ℕ) → p.refusal ≡ None → HasNoLf bytes → length p.held + length bytes < long_from
    → after_bytes header p bytes ≡ held_at_end p (p.held ++ bytes)
bytes-held header p [] none no_lf few = ap (held_at_end p) (sym (append-nil p.held))
bytes-held header p (b ∷ bytes) none no_lf few =
    let parts = no_lf-parts b bytes no_lf in
    let q : JournalProgress = held_at_end p (p.held ++ b ∷ []) in
    ap (λ (r : JournalProgress). after_bytes header r bytes) (byte-held header p b none parts.0 (omega arith))
    ∙ bytes-held header q bytes none parts.1 (omega (arith, length-append p.held (b ∷ [])))
    ∙ ap (held_at_end p) (append_assoc p.held (b ∷ []) bytes)

-- or the line is refused, whatever is read behind them
pub bytes-too-long : (header : List ℕ) (p : JournalProgress) (bytes more : List ℕ) → p.refusal ≡ None → HasNoLf bytes → length p.held < long_from
    → long_from ≤ length p.held + length bytes → after_bytes header p (bytes ++ more) ≡ line_refused p
bytes-too-long header p [] more none no_lf short long = absurd (omega arith)
bytes-too-long header p (b ∷ bytes) more none no_lf short long = elim (cases_lt (length p.held + 1) long_from) [
  | inl few ↦
      let parts = no_lf-parts b bytes no_lf in
      let q : JournalProgress = held_at_end p (p.held ++ b ∷ []) in
      ap (λ (r : JournalProgress). after_bytes header r (bytes ++ more)) (byte-held header p b none parts.0 few)
      ∙ bytes-too-long header q bytes more none parts.1 (omega (arith, length-append p.held (b ∷ []))) (omega (arith, length-append p.held (b ∷ [])))
  | inr many ↦
      let parts = no_lf-parts b bytes no_lf in
      ap (λ (r : JournalProgress). after_bytes header r (bytes ++ more)) (byte-too-long header p b none parts.0 many) ∙ refused-stays header (line_refused p) _ (bytes ++ more) refl
]

-- ---- a line

-- what is held does not matter where a line is taken, nor what was refused
taken_as-from : (p : JournalProgress) (held : List ℕ) (refusal : Option JournalRefusal) (w : Wire) (o : Option Message)
    → taken_as (record { service = p.service; messages = p.messages; lines = p.lines; held = held; refusal = refusal }) w o ≡ taken_as p w o
taken_as-from p held refusal w None = refl
taken_as-from p held refusal w (Some m) = refl

message_taken-from : (p : JournalProgress) (held : List ℕ) (refusal : Option JournalRefusal) (o : Option Wire)
    → message_taken (record { service = p.service; messages = p.messages; lines = p.lines; held = held; refusal = refusal }) o ≡ message_taken p o
message_taken-from p held refusal None = refl
message_taken-from p held refusal (Some w) = taken_as-from p held refusal w (accepted_wire p.service w)

pub line_taken-from : (header ended : List ℕ) (p : JournalProgress) (held : List ℕ) (refusal : Option JournalRefusal)
    → line_taken header ended (record { service = p.service; messages = p.messages; lines = p.lines; held = held; refusal = refusal }) ≡ line_taken header ended p
line_taken-from header ended p held refusal = elim (cases_Bool (nat_eq p.lines 0)) [
  | inl first ↦ elim (cases_Bool (bytes_eq ended header)) [
    | inl same ↦ rw (first, same) refl
    | inr other ↦ rw (first, other) refl
  ]
  | inr later ↦ rw later (message_taken-from p held refusal (wire_of_line ended))
]

-- behind a line nothing is held
taken_as-held : (p : JournalProgress) (w : Wire) (o : Option Message) → (taken_as p w o).held ≡ []
taken_as-held p w None = refl
taken_as-held p w (Some m) = refl

message_taken-held : (p : JournalProgress) (o : Option Wire) → (message_taken p o).held ≡ []
message_taken-held p None = refl
message_taken-held p (Some w) = taken_as-held p w (accepted_wire p.service w)

pub line_taken-held : (header ended : List ℕ) (p : JournalProgress) → (line_taken header ended p).held ≡ []
line_taken-held header ended p = elim (cases_Bool (nat_eq p.lines 0)) [
  | inl first ↦ elim (cases_Bool (bytes_eq ended header)) [
    | inl same ↦ rw (first, same) refl
    | inr other ↦ rw (first, other) refl
  ]
  | inr later ↦ rw later (message_taken-held p (wire_of_line ended))
]

-- bytes up to an LF, and then more: the line is taken, and the others are read behind it
pub line-read : (header : List ℕ) (p : JournalProgress) (front back : List ℕ) → p.refusal ≡ None → HasNoLf front → length p.held + length front < long_from
    → after_bytes header p (front ++ 10 ∷ back) ≡ after_bytes header (line_taken header ((p.held ++ front) ++ 10 ∷ []) p) back
line-read header p front back none no_lf few =
    let q : JournalProgress = held_at_end p (p.held ++ front) in
    read-append header p front (10 ∷ back)
    ∙ ap (λ (r : JournalProgress). after_bytes header r (10 ∷ back)) (bytes-held header p front none no_lf few)
    ∙ ap (λ (r : JournalProgress). after_bytes header r back) (lf-read header q none ∙ line_taken-from header ((p.held ++ front) ++ 10 ∷ []) p (p.held ++ front) p.refusal)
