-- What a line says to `desk`: what it says to every command, or a question. The faults of a line
-- that is no question are those of every command, and a question has `Shape` where its version is
-- none, or a member that it needs is absent or of another kind.
use Rattle.std.specs.Prelude.{ℕ, ◌==◌, ◌||◌, List, Bool, false, if◌then◌else◌, Result, Ok, Err, bytes_eq, codes}
use Rattle.std.specs.Option.{option_map_or}
use Rattle.serde_json.specs.Data.{Data}
use Rattle.message_reader.specs.declared.bad_line.BadLine.{BadLine}
use Rattle.message_reader.specs.declared.bad_line.BadLine.TheVariants.{Shape}
use Rattle.message_reader.specs.declared.wire.Line.{Line}
use Rattle.message_reader.specs.Chain.{◌>>=◌, unless}
use Rattle.message_reader.specs.Fields.{text_at, number_at}
use Rattle.message_reader.specs.Lines.{said_by_value, value_of}
use Rattle.message_reader.specs.Wires.{IsLine}
use Rattle.desk_lines.specs.declared.lines.DeskLine.{DeskLine}
use Rattle.desk_lines.specs.declared.lines.DeskLine.TheVariants as desks
use Rattle.desk_lines.specs.Questions.{departures_of, event_of, AreWireDepartures}

-- the type of an object is this one
abbrev pub has_type : List ℕ → Data → Bool
has_type name d = option_map_or (λ text. bytes_eq text name) (text_at (codes "type") d) false

-- the object has `v`, the whole number 1 or 2
abbrev pub has_version : Data → Bool
has_version d = option_map_or (λ v. (v == 1) || (v == 2)) (number_at (codes "v") d) false

-- what an object of the type `departures` asks
unfoldable pub departures_said : Data → Result DeskLine BadLine
departures_said d = do
  _ ← unless (has_version d) Shape
  asked ← departures_of d
  Ok (desks.Departures asked)

-- what an object of the type `why` asks
unfoldable pub event_said : Data → Result DeskLine BadLine
event_said d = do
  _ ← unless (has_version d) Shape
  asked ← event_of d
  Ok (desks.Why asked)

-- what a line says to every command, as it is said to `desk`
abbrev pub as_desk_line : Result Line BadLine → Result DeskLine BadLine
as_desk_line said = said >>= λ line. Ok (desks.Line line)

-- what an object says that is no question
unfoldable pub line_said : Data → Result DeskLine BadLine
line_said d = as_desk_line (said_by_value d)

-- what the value of a line says
unfoldable pub desk_said : Data → Result DeskLine BadLine
desk_said d =
    if has_type (codes "departures") d then departures_said d
    else (if has_type (codes "why") d then event_said d else line_said d)

-- what the line says, or the first fault that holds
unfoldable pub desk_line_of : List ℕ → Result DeskLine BadLine
desk_line_of bytes = do
  d ← value_of bytes
  desk_said d

-- whether the value of a line, if it has one, is an object of the type `departures` or `why`
abbrev pub is_question_in : Result Data BadLine → Bool
is_question_in (Ok d) = has_type (codes "departures") d || has_type (codes "why") d
is_question_in (Err bad) = false

-- what is said keeps what everything that is read keeps
abbrev pub IsDeskLine : DeskLine → Type 0
IsDeskLine (desks.Line line) = IsLine line
IsDeskLine (desks.Departures asked) = AreWireDepartures asked
IsDeskLine (desks.Why asked) = Unit {0}
