-- The reader of a journal, and what it answers.
use Rattle.std.specs.Prelude.{◌≡◌, ◌<◌, ◌≤◌, ℕ, ◌+◌, ◌-◌, List, ◌++◌, length, Result, Ok, Err, Some, None}
use Rattle.std.specs.declared.option.Option.{Option}
use mathlib.Core.List.{IsPrefix}
use Rattle.delay_model.specs.declared.messages.Message.{Message}
use Rattle.information_service.specs.ServiceState.{ServiceState}
use Rattle.journal_replay.specs.Reading.{JournalProgress, after_bytes, long_from, refused}
use Rattle.journal_replay.specs.declared.refusal.JournalRefusal.{JournalRefusal}
use Rattle.journal_replay.specs.declared.refusal.JournalRefusal.TheVariants.{Header, Line, OutOfMemory}

-- what a reader is seen as: the header that it expects, how many whole lines it has read, the bytes
-- behind the last of them, and why the journal is refused, if it is
pub record ReaderState : Type 0 where
  pub header : List ℕ
  pub lines : ℕ
  pub held : List ℕ
  pub refusal : Option JournalRefusal

-- how far a journal is read by such a reader, whose messages made this service
abbrev pub progress : ReaderState → ServiceState → List Message → JournalProgress
progress r s messages = record {
  service = s;
  messages = messages;
  lines = r.lines;
  held = r.held;
  refusal = r.refusal;
}

-- what it answers: why the journal is refused, or how many messages it has read
abbrev pub answer_by : ℕ → Option JournalRefusal → Result ℕ JournalRefusal
answer_by lines (Some why) = Err why
answer_by lines None = Ok (lines - 1)

abbrev pub answer : ReaderState → Result ℕ JournalRefusal
answer r = answer_by r.lines r.refusal

-- ---- bytes that end no line

-- they are held behind the others, and the line is not too long
pub record IsHeld (old : ReaderState) (bytes : List ℕ) (new : ReaderState) : Type 0 where
  pub new_is : new ≡ record {
    header = old.header;
    lines = old.lines;
    held = old.held ++ bytes;
    refusal = old.refusal;
  }
  pub short : length old.held + length bytes < long_from

-- or they are not: the line is too long, or there is no memory
abbrev pub IsNotHeld : ReaderState → List ℕ → JournalRefusal → Type 0
IsNotHeld old bytes Header = ⊥
IsNotHeld old bytes (Line line) =
    (line ≡ old.lines + 1) × (long_from ≤ length old.held + length bytes)
IsNotHeld old bytes OutOfMemory = Unit {0}

-- ---- bytes

-- so far the reader has read, and who takes its messages stands there
pub record IsAt {T : Type 0} (Stands : T → ServiceState → List Message → Type 0) (taker : T)
    (reader : ReaderState) (p : JournalProgress) : Type 0 where
  pub reads : p ≡ progress reader p.service p.messages
  pub stands : Stands taker p.service p.messages

-- wherever the reader and who takes its messages stood, they stand behind these bytes now
abbrev pub HasRead : {T : Type 0} → (T → ServiceState → List Message → Type 0) → T → ReaderState
    → List ℕ → T → ReaderState → Type 0
HasRead Stands taker reader bytes taker_now reader_now = (p : JournalProgress)
    → IsAt Stands taker reader p
    → IsAt Stands taker_now reader_now (after_bytes reader.header p bytes)

-- so far a journal is read that is then refused for this
pub record StopsAt {T : Type 0} (Stands : T → ServiceState → List Message → Type 0) (taker : T)
    (lines : ℕ) (why : JournalRefusal) (end : JournalProgress) : Type 0 where
  pub last : JournalProgress
  pub refused_there : end ≡ refused why last
  pub lines_are : last.lines ≡ lines
  pub stands : Stands taker last.service last.messages

-- so far a journal is read where there was no memory to go on: who takes its messages stands behind
-- a beginning of these bytes
pub record BreaksOff {T : Type 0} (Stands : T → ServiceState → List Message → Type 0) (taker : T)
    (reader : ReaderState) (bytes : List ℕ) (taker_now : T) (lines : ℕ) : Type 0 where
  pub front : List ℕ
  pub begins : IsPrefix front bytes
  pub lines_are : (p : JournalProgress) → IsAt Stands taker reader p
      → (after_bytes reader.header p front).lines ≡ lines
  pub stands : (p : JournalProgress) → IsAt Stands taker reader p
      → Stands taker_now (after_bytes reader.header p front).service
      (after_bytes reader.header p front).messages

-- why these bytes are not read to their end: wherever the reader and who takes its messages stood,
-- they stand behind the lines before the one that is refused now; or there was no memory
abbrev pub StopsIn : {T : Type 0} → (T → ServiceState → List Message → Type 0) → T → ReaderState
    → List ℕ → T → ReaderState → JournalRefusal → Type 0
StopsIn Stands taker reader bytes taker_now reader_now Header = (p : JournalProgress)
    → IsAt Stands taker reader p
    → StopsAt Stands taker_now reader_now.lines Header (after_bytes reader.header p bytes)
StopsIn Stands taker reader bytes taker_now reader_now (Line line) = (p : JournalProgress)
    → IsAt Stands taker reader p
    → StopsAt Stands taker_now reader_now.lines (Line line) (after_bytes reader.header p bytes)
StopsIn Stands taker reader bytes taker_now reader_now OutOfMemory =
    BreaksOff Stands taker reader bytes taker_now reader_now.lines
