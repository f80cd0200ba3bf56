-- What a line of the input says in a window.
use Rattle.std.specs.Prelude.{List, map, Bool, true, false, is_ok, Result, Ok, Err}
use Rattle.information_service.specs.Lines.{said_by}
use Rattle.message_reader.specs.declared.bad_line.BadLine.{BadLine}
use Rattle.message_reader.specs.declared.wire.Line.{Line as Spoken}
use Rattle.message_reader.specs.declared.wire.Line.TheVariants as says
use Rattle.message_reader.specs.ResolvedQueries.{query_resolved}
use Rattle.message_reader.specs.Wires.{IsWire}
use Rattle.mt_io.specs.Lines.{Line}
use Rattle.schedule_build.specs.Directory.{Names}
use Rattle.query_crew.specs.declared.window_line.WindowLine.{WindowLine}
use Rattle.query_crew.specs.declared.window_line.WindowLine.TheVariants as shown

-- what a line that says this says in a window: a query stands there with the numbers for which its
-- names stand, or with why its line is bad
abbrev pub window_line : Names → Result Spoken BadLine → WindowLine
window_line names (Ok (says.Message w)) = shown.Message w
window_line names (Ok (says.Query q)) =
    shown.Query (record { client = q.client; asked = query_resolved names q })
window_line names (Ok says.Flush) = shown.Flush
window_line names (Err b) = shown.Bad b

-- what these lines say in a window
abbrev pub window_lines : Names → List Line → List WindowLine
window_lines names lines = map (λ x. window_line names (said_by x)) lines

-- the line of a window is a flush
abbrev pub is_flush_line : WindowLine → Bool
is_flush_line (shown.Message w) = false
is_flush_line (shown.Query q) = false
is_flush_line shown.Flush = true
is_flush_line (shown.Bad b) = false

-- the line asks something that a worker answers: it is a query, and its line is not bad
abbrev pub asks : WindowLine → Bool
asks (shown.Message w) = false
asks (shown.Query q) = is_ok q.asked
asks shown.Flush = false
asks (shown.Bad b) = false

-- the message of the line keeps what every message that is read keeps
abbrev pub IsWindowLine : WindowLine → Type 0
IsWindowLine (shown.Message w) = IsWire w
IsWindowLine (shown.Query q) = Unit {0}
IsWindowLine shown.Flush = Unit {0}
IsWindowLine (shown.Bad b) = Unit {0}
