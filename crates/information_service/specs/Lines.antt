-- What the lines of an input say, and which of their messages are accepted.
use Rattle.std.specs.Prelude.{◌≡◌, ◌<◌, List, None, Result, Err}
use Rattle.std.specs.Option.{option_map, option_map_or}
use Rattle.std.specs.declared.option.Option.{Option}
use Rattle.std.specs.List.{filter_map}
use Rattle.delay_model.specs.declared.network.Network.{Network}
use Rattle.delay_model.specs.declared.messages.Message.{Message}
use Rattle.delay_model.specs.declared.state.State.{State}
use Rattle.delay_model.specs.After.{Reading, accepted, known_after}
use Rattle.delay_model.specs.Names.{TrainName}
use Rattle.message_reader.specs.declared.bad_line.BadLine.{BadLine}
use Rattle.message_reader.specs.declared.bad_line.BadLine.TheVariants.{Long}
use Rattle.message_reader.specs.declared.wire.Wire.{Wire}
use Rattle.message_reader.specs.declared.wire.Wire.TheVariants.{Extra}
use Rattle.message_reader.specs.declared.wire.Line.{Line as Spoken}
use Rattle.message_reader.specs.Lines.{line_of, message_in}
use Rattle.message_reader.specs.Resolved.{resolved}
use Rattle.mt_io.specs.Lines.{Line, short, long}
use Rattle.schedule_build.specs.Directory.{Names, day_named, train_named, with_extra}

-- what a line says, or why it is bad
abbrev pub said_by : Line → Result Spoken BadLine
said_by long = Err Long
said_by (short bytes) = line_of bytes

-- the messages of these lines
abbrev pub messages_of : List Line → List Wire
messages_of lines = filter_map (λ x. message_in (said_by x)) lines

-- the name of the train that a message adds: an extra train is known by its trip and its service
-- day, and no other message adds a name
abbrev pub added_name : Names → Wire → Option TrainName
added_name names (Extra trip date route calls) = option_map (λ day. record {
  trip = trip;
  day = day;
}) (day_named names date)
added_name names _ = None

-- a name is not there, and there is room for it
pub record CanBeAdded (names : Names) (name : TrainName) : Type 0 where
  pub room : 0 < names.spare_trains
  pub new : train_named names name.trip name.day ≡ None

-- the names with this one, if there is one
abbrev pub with_added : Option TrainName → Names → Names
with_added name names = option_map_or (λ n. with_extra n.trip n.day names) name names

-- the names after an accepted message. The day of an accepted message is loaded
abbrev pub names_with : Names → Wire → Names
names_with names w = with_added (added_name names w) names

-- a message is read by the names that are known before it
abbrev pub by_names : Reading Wire Names
by_names = record { message = resolved; known = names_with }

-- the accepted messages of these lines, in a timetable that begins in the state `st`
abbrev pub accepted_of : Network → Names → State → List Line → List Message
accepted_of nw names st lines = accepted nw by_names st names (messages_of lines)

-- the names that are known after these lines
abbrev pub names_after : Network → Names → State → List Line → Names
names_after nw names st lines = known_after nw by_names st names (messages_of lines)
