-- Journals as texts: of accepted messages, and what is read of a beginning of one.
use Rattle.std.specs.Prelude.{◌≡◌, ◌≤◌, ℕ, ◌+◌, ◌-◌, List, [], ◌∷◌, ◌++◌, IsSome, fold, length, map, nat_le, take, if◌then◌else◌, Some, None}
use Rattle.std.specs.List.{concat}
use Rattle.std.specs.declared.option.Option.{Option}
use Rattle.delay_model.specs.declared.messages.Message.{Message}
use Rattle.information_service.specs.ServiceState.{ServiceState}
use Rattle.journal_lines.specs.declared.heads.Head.{Head}
use Rattle.journal_lines.specs.Lines.{text_of_head, text_of_message, HasTexts}
use Rattle.message_reader.specs.declared.wire.Wire.{Wire}
use Rattle.message_reader.specs.Spelled.{HasLabels}
use Rattle.message_reader.specs.Wires.{IsProper}
use Rattle.mt_io.specs.Lines.{pieces}
use Rattle.journal_replay.specs.Reading.{JournalProgress, accepted_wire, after_wire, line_refused, line_taken, long_from}
use Rattle.journal_replay.specs.declared.refusal.JournalRefusal.{JournalRefusal}

-- ---- a journal, line by line

-- what is read of the lines of a journal, which are the pieces between its LFs, from where a line
-- begins: the last piece is the bytes behind the last LF, which are held. The first line that is
-- too long, or that is not taken, is refused, and ends it
abbrev pub goes_on : JournalProgress → Option JournalRefusal → JournalProgress → JournalProgress
goes_on p (Some why) next = p
goes_on p None next = next

abbrev pub held_at_end : JournalProgress → List ℕ → JournalProgress
held_at_end p rest = record {
  service = p.service;
  messages = p.messages;
  lines = p.lines;
  held = rest;
  refusal = p.refusal;
}

abbrev pub line_by_line : List ℕ → JournalProgress → List (List ℕ) → JournalProgress
line_by_line header p [] = p
line_by_line header p (rest ∷ []) =
    if nat_le long_from (length rest) then line_refused p else held_at_end p rest
line_by_line header p (line ∷ next ∷ more) =
    if nat_le long_from (length line) then line_refused p
    else let q = line_taken header (line ++ 10 ∷ []) p in
    goes_on q q.refusal (line_by_line header q (next ∷ more))

-- ---- the journal of messages

-- its header, and a line for each message
abbrev pub journal_of : Head → List Wire → List ℕ
journal_of head ws = text_of_head head ++ concat (map text_of_message ws)

-- the service after messages that are accepted one after the other
abbrev pub after_wires : ServiceState → List Wire → ServiceState
after_wires s ws = fold after_wire s ws

-- each message is accepted in the service after those before it
abbrev pub AreTaken : ServiceState → List Wire → Type 0
AreTaken s [] = Unit {0}
AreTaken s (w ∷ ws) = IsSome (accepted_wire s w) × AreTaken (after_wire s w) ws

-- a message behind others, if there is one
abbrev pub behind : Option Message → List Message → List Message
behind (Some m) ms = m ∷ ms
behind None ms = ms

-- these messages by number
abbrev pub messages_in : ServiceState → List Wire → List Message
messages_in s [] = []
messages_in s (w ∷ ws) = behind (accepted_wire s w) (messages_in (after_wire s w) ws)

-- it is a message as messages are read, and its line is not too long
pub record CanBeWritten (w : Wire) : Type 0 where
  pub proper : IsProper w
  pub labels : HasLabels w
  pub texts : HasTexts w
  pub short : length (text_of_message w) ≤ long_from

-- the line of the header is not too long
pub record CanBeHead (head : Head) : Type 0 where
  pub short : length (text_of_head head) ≤ long_from

-- so far such bytes are read: they are not refused, each whole line was taken, and the service
-- stands behind the first messages, as many as there are whole lines behind the header
pub record IsReadSoFar (s : ServiceState) (ws : List Wire) (bytes : List ℕ) (p : JournalProgress) : Type 0 where
  pub not_refused : p.refusal ≡ None
  pub lines : length (pieces bytes) ≡ p.lines + 1
  pub within : p.lines ≤ length ws + 1
  pub service : p.service ≡ after_wires s (take (p.lines - 1) ws)
  pub messages : p.messages ≡ messages_in s (take (p.lines - 1) ws)
