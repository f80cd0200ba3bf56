-- The parts of bytes that are read as a journal.
use Rattle.std.specs.Prelude.{◌≡◌, ℕ, ◌+◌, List, ◌++◌, length}
use Rattle.information_service.specs.ServiceState.{ServiceState}
use Rattle.journal_lines.specs.declared.heads.Head.{Head}
use Rattle.journal_replay.specs.Journals.{after_wires, journal_of, messages_in, AreTaken}
use Rattle.journal_replay.specs.Reading.{JournalProgress}
use Rattle.message_reader.specs.declared.wire.Wire.{Wire}
use Rattle.mt_io.specs.Steps.{HasNoLf}

-- these bytes are the journal of messages that are accepted one after the other, and a part of a
-- line behind it; and so far they are read
pub record IsJournalRead (head : Head) (s : ServiceState) (bytes : List ℕ)
    (p : JournalProgress) : Type 0 where
  -- the messages, by names
  pub wires : List Wire
  -- each is accepted in the service after those before it
  pub taken : AreTaken s wires
  -- the bytes are the journal of these messages, and behind it those that are held
  pub bytes_are : bytes ≡ journal_of head wires ++ p.held
  -- what is held is no whole line
  pub no_lf : HasNoLf p.held
  -- a line was taken for the header, and one for each message
  pub lines : p.lines ≡ length wires + 1
  -- the service stands behind these messages
  pub service : p.service ≡ after_wires s wires
  -- and these they are by number
  pub messages : p.messages ≡ messages_in s wires
