-- Which messages `journal` writes for the lines of an input, and how far what it writes is read.
use Rattle.std.specs.Prelude.{◌<◌, ◌+◌, List, [], ◌∷◌, Result, Ok, Err, Some, None, fold, length}
use Rattle.std.specs.declared.option.Option.{Option}
use Rattle.delay_model.specs.declared.messages.Message.{Message}
use Rattle.information_service.specs.Lines.{said_by}
use Rattle.information_service.specs.ServiceState.{ServiceState, after_line}
use Rattle.journal_replay.specs.Journals.{messages_in}
use Rattle.journal_replay.specs.Reading.{JournalProgress, accepted_wire}
use Rattle.message_reader.specs.declared.bad_line.BadLine.{BadLine}
use Rattle.message_reader.specs.declared.wire.Line.{Line as Spoken}
use Rattle.message_reader.specs.declared.wire.Line.TheVariants.{Message as Says, Query as Asks, Flush}
use Rattle.message_reader.specs.declared.wire.Wire.{Wire}
use Rattle.mt_io.specs.Lines.{Line, long, short}

-- a message in front of others, if it is accepted as this one by number
abbrev pub in_front : Wire → Option Message → List Wire → List Wire
in_front w (Some m) ws = w ∷ ws
in_front w None ws = ws

-- the message that is said, if one is and the service accepts it, in front of others
abbrev pub said_in_front : ServiceState → Result Spoken BadLine → List Wire → List Wire
said_in_front t (Ok (Says w)) ws = in_front w (accepted_wire t w) ws
said_in_front t (Ok (Asks q)) ws = ws
said_in_front t (Ok Flush) ws = ws
said_in_front t (Err bad) ws = ws

-- the messages of the lines of an input that are accepted, each in the service behind the lines
-- before it
abbrev pub accepted_wires : ServiceState → List Line → List Wire
accepted_wires t [] = []
accepted_wires t (x ∷ xs) = said_in_front t (said_by x) (accepted_wires (after_line t x) xs)

-- the line is as the lines of every input are: of one with 65,536 bytes or more only that it is
-- long is told
abbrev pub IsInputLine : Line → Type 0
IsInputLine (short bytes) = length bytes < 65536
IsInputLine long = Unit {0}

-- the service behind the lines of an input
abbrev pub after_lines : ServiceState → List Line → ServiceState
after_lines t lines = fold after_line t lines

-- how far the whole of what `journal` writes for the lines of an input is read: the service stands
-- where the input left it, no bytes are held, and nothing is refused
abbrev pub read_behind : ServiceState → List Line → JournalProgress
read_behind t lines = record {
  service = after_lines t lines;
  messages = messages_in t (accepted_wires t lines);
  lines = length (accepted_wires t lines) + 1;
  held = [];
  refusal = None;
}
