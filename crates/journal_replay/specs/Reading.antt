-- How a journal is read, byte by byte, and so however its bytes are cut into pieces.
use Rattle.std.specs.Prelude.{ℕ, ◌+◌, ◌-◌, List, [], ◌∷◌, ◌++◌, nat_eq, nat_le, bytes_eq, fold, if◌then◌else◌, length, take, Result, Ok, Err, Some, None}
use Rattle.std.specs.declared.option.Option.{Option}
use Rattle.delay_model.specs.declared.messages.Message.{Message}
use Rattle.delay_model.specs.After.{accepted_message}
use Rattle.information_service.specs.ServiceState.{ServiceState, after_message}
use Rattle.journal_lines.specs.Lines.{text_of_message}
use Rattle.message_reader.specs.declared.bad_line.BadLine.{BadLine}
use Rattle.message_reader.specs.declared.wire.Wire.{Wire}
use Rattle.message_reader.specs.declared.wire.Line.{Line as Spoken}
use Rattle.message_reader.specs.declared.wire.Line.TheVariants.{Message as Says, Query as Asks, Flush}
use Rattle.message_reader.specs.Lines.{line_of}
use Rattle.message_reader.specs.Resolved.{resolved}
use Rattle.journal_replay.specs.declared.refusal.JournalRefusal.{JournalRefusal}
use Rattle.journal_replay.specs.declared.refusal.JournalRefusal.TheVariants.{Header, Line}

-- ---- the message of a line

-- this message, if this is its line with its end, byte for byte
abbrev pub message_if : List ℕ → Wire → Option Wire
message_if ended w = if bytes_eq (text_of_message w) ended then Some w else None

-- the message that a line says, if this is that message's line with its end
abbrev pub message_said : List ℕ → Result Spoken BadLine → Option Wire
message_said ended (Ok (Says w)) = message_if ended w
message_said ended (Ok (Asks q)) = None
message_said ended (Ok Flush) = None
message_said ended (Err b) = None

-- a line without its end
abbrev pub without_end : List ℕ → List ℕ
without_end ended = take (length ended - 1) ended

-- the message whose line this is, with its end, if it is the line of a message
abbrev pub wire_of_line : List ℕ → Option Wire
wire_of_line ended = message_said ended (line_of (without_end ended))

-- ---- a message

-- the message by number, if it is accepted in this state of a service
abbrev pub accepted_wire : ServiceState → Wire → Option Message
accepted_wire s w = accepted_message s.network s.state (resolved s.names w)

-- the service after it
abbrev pub after_wire : ServiceState → Wire → ServiceState
after_wire s w = after_message s w (resolved s.names w)

-- ---- how far a journal is read

pub record JournalProgress : Type 0 where
  -- the service after the messages that were read
  pub service : ServiceState
  -- these messages, by number
  pub messages : List Message
  -- how many lines were taken, the header among them
  pub lines : ℕ
  -- the bytes behind the last of them; none where the journal is refused
  pub held : List ℕ
  -- why the journal is refused, if it is. Then nothing is read any more
  pub refusal : Option JournalRefusal

-- nothing was read, and this is the service
abbrev pub nothing_read : ServiceState → JournalProgress
nothing_read s = record { service = s; messages = []; lines = 0; held = []; refusal = None }

-- the journal is refused for this
abbrev pub refused : JournalRefusal → JournalProgress → JournalProgress
refused why p = record {
  service = p.service;
  messages = p.messages;
  lines = p.lines;
  held = [];
  refusal = Some why;
}

-- the line that is being read is refused
abbrev pub line_refused : JournalProgress → JournalProgress
line_refused p = refused (Line (p.lines + 1)) p

-- ---- a line

-- the first line is taken: it is the header, or the journal is refused
abbrev pub header_taken : List ℕ → List ℕ → JournalProgress → JournalProgress
header_taken header ended p = if bytes_eq ended header then record {
  service = p.service;
  messages = p.messages;
  lines = p.lines + 1;
  held = [];
  refusal = None;
} else refused Header p

-- a message is taken, if it is accepted as this one; else its line is refused
abbrev pub taken_as : JournalProgress → Wire → Option Message → JournalProgress
taken_as p w None = line_refused p
taken_as p w (Some m) = record {
  service = after_wire p.service w;
  messages = p.messages ++ m ∷ [];
  lines = p.lines + 1;
  held = [];
  refusal = None;
}

-- the line of this message, if it is one, is taken
abbrev pub message_taken : JournalProgress → Option Wire → JournalProgress
message_taken p None = line_refused p
message_taken p (Some w) = taken_as p w (accepted_wire p.service w)

-- a line with its end is taken: the first as the header, and any other as that of a message
abbrev pub line_taken : List ℕ → List ℕ → JournalProgress → JournalProgress
line_taken header ended p = if nat_eq p.lines 0 then header_taken header ended p
    else message_taken p (wire_of_line ended)

-- ---- a byte

-- so many bytes before its end, or more, make a line too long
abbrev pub long_from : ℕ
long_from = 1048576

-- a byte that ends no line is held, unless the line gets too long
abbrev pub byte_held : ℕ → JournalProgress → JournalProgress
byte_held b p = if nat_le long_from (length p.held + 1) then line_refused p else record {
  service = p.service;
  messages = p.messages;
  lines = p.lines;
  held = p.held ++ b ∷ [];
  refusal = p.refusal;
}

-- a byte is read: where the journal is refused nothing happens; an LF ends a line
abbrev pub byte_read : List ℕ → JournalProgress → ℕ → Option JournalRefusal → JournalProgress
byte_read header p b (Some why) = p
byte_read header p b None = if nat_eq b 10 then line_taken header (p.held ++ 10 ∷ []) p
    else byte_held b p

abbrev pub after_byte : List ℕ → JournalProgress → ℕ → JournalProgress
after_byte header p b = byte_read header p b p.refusal

-- these bytes are read
abbrev pub after_bytes : List ℕ → JournalProgress → List ℕ → JournalProgress
after_bytes header p bytes = fold (after_byte header) p bytes
