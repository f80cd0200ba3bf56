-- What the publisher of the crew posts for the lines of a window, and what it replies at once.
use Rattle.std.specs.Prelude.{◌≡◌, ◌<◌, ℕ, ◌+◌, ◌^◌, All, List, [], ◌∷◌, ◌++◌, length, fold, Some, None, Result, Ok, Err}
use Rattle.std.specs.declared.option.Option.{Option}
use Rattle.std.specs.List.{filter_map}
use Rattle.delay_model.specs.declared.messages.Message.{Message}
use Rattle.delay_model.specs.After.{accepted}
use Rattle.delay_report.specs.declared.replies.Reply.{Reply}
use Rattle.delay_report.specs.declared.replies.Reply.TheVariants.{Bad, Flush}
use Rattle.information_service.specs.Lines.{by_names}
use Rattle.information_service.specs.Output.{reply_to_message}
use Rattle.information_service.specs.ServiceState.{ServiceState, after_message}
use Rattle.information_service.specs.Taking.{service_with}
use Rattle.message_reader.specs.declared.bad_line.BadLine.{BadLine}
use Rattle.message_reader.specs.declared.resolve_queries.AskedQuery.{AskedQuery}
use Rattle.message_reader.specs.declared.wire.Wire.{Wire}
use Rattle.message_reader.specs.Resolved.{resolved}
use Rattle.schedule_build.specs.Directory.{Names}
use Rattle.schedule_build.specs.InStep.{AreInStep}
use Rattle.timetable.specs.TimetableState.{TimetableState}
use Rattle.query_crew.specs.declared.window_line.WindowLine.{WindowLine}
use Rattle.query_crew.specs.declared.window_line.WindowLine.TheVariants as shown
use Rattle.query_crew.specs.Posted.{timetable_after}
use Rattle.query_crew.specs.WindowLines.{IsWindowLine}

-- ---- the state of a board

-- a board to which these messages were posted, with the names that are known, stands as a service
-- in this state, and its names and its trains are in step
pub record StandsAt (o : Option TimetableState) (posted : List Message) (names : Names)
    (s : ServiceState) : Type 0 where
  pub timetable : TimetableState
  pub after : timetable_after o posted ≡ Some timetable
  pub is : s ≡ service_with timetable (length posted) names
  pub in_step : AreInStep names timetable.state

-- the board stands as a service in some state
abbrev pub HasService : Option TimetableState → List Message → Names → Type 0
HasService o posted names = (s : ServiceState) × StandsAt o posted names s

-- what must hold of a board, the names that are known and the lines of a window, of which so many
-- lines of the input stand before it: the board stands as a service, each message is one that was
-- read, and the numbers of lines and of messages fit
pub record CanBeRun (o : Option TimetableState) (posted : List Message) (names : Names) (first : ℕ)
    (lines : List WindowLine) : Type 0 where
  pub board : HasService o posted names
  pub kept : All IsWindowLine lines
  pub numbers : first + length lines < 2 ^ 64
  pub posts : length posted + length lines < 2 ^ 64

-- the board has this timetable, after so many messages that were posted to it
abbrev pub IsTimetableAfter : Option TimetableState → List Message → TimetableState → ℕ → Type 0
IsTimetableAfter o posted t count =
    (timetable_after o posted ≡ Some t) × (count ≡ length posted)

-- the message was posted behind the others
abbrev pub IsPosted : List Message → Message → List Message → Type 0
IsPosted old m new = new ≡ old ++ m ∷ []

-- ---- what lines do

-- after a line of a window: a message that is accepted has its effect
abbrev pub after_shown : ServiceState → WindowLine → ServiceState
after_shown s (shown.Message w) = after_message s w (resolved s.names w)
after_shown s (shown.Query q) = s
after_shown s shown.Flush = s
after_shown s (shown.Bad b) = s

-- after these lines
abbrev pub after_lines : ServiceState → List WindowLine → ServiceState
after_lines s lines = fold after_shown s lines

-- the message of a line
abbrev pub message_shown : WindowLine → Option Wire
message_shown (shown.Message w) = Some w
message_shown (shown.Query q) = None
message_shown shown.Flush = None
message_shown (shown.Bad b) = None

-- the accepted messages of these lines, in a service that is in this state before them
abbrev pub accepted_in : ServiceState → List WindowLine → List Message
accepted_in s lines = accepted s.network by_names s.state s.names (filter_map message_shown lines)

-- ---- what is replied at once

-- a query is answered by a worker, and one whose line is bad at once
abbrev pub reply_to_bad : ℕ → Result AskedQuery BadLine → Option Reply
reply_to_bad number (Ok asked) = None
reply_to_bad number (Err b) = Some (Bad number b)

-- what is replied at once to the line of this number, in this state
abbrev pub publisher_reply : ServiceState → ℕ → WindowLine → Option Reply
publisher_reply s number (shown.Message w) =
    Some (reply_to_message s.network s.names s.state s.count number w (resolved s.names w))
publisher_reply s number (shown.Query q) = reply_to_bad number q.asked
publisher_reply s number shown.Flush = Some (Flush number s.count)
publisher_reply s number (shown.Bad b) = Some (Bad number b)

-- what is replied at once to these lines, each in the state after those before it. So many lines of
-- the input stand before them
abbrev pub publisher_replies : ServiceState → ℕ → List WindowLine → List (Option Reply)
publisher_replies s first [] = []
publisher_replies s first (x ∷ xs) =
    publisher_reply s (first + 1) x ∷ publisher_replies (after_shown s x) (first + 1) xs

-- ---- what was posted

-- what was done with one line, in this state: its message was posted if it is accepted, and its
-- reply was made
pub record IsTaken (o : Option TimetableState) (s : ServiceState) (number : ℕ) (line : WindowLine)
    (old new : List Message) (names : Names) (reply : Option Reply) : Type 0 where
  pub stands : StandsAt o new names (after_shown s line)
  pub posted : new ≡ old ++ accepted_in s (line ∷ [])
  pub replied : reply ≡ publisher_reply s number line

-- what was done with these lines, in this state before them: their accepted messages were posted,
-- and the replies were put behind the older ones
pub record ArePosted (o : Option TimetableState) (s : ServiceState) (first : ℕ)
    (lines : List WindowLine) (old new : List Message) (names : Names)
    (replies_old replies_new : List (Option Reply)) : Type 0 where
  pub stands : StandsAt o new names (after_lines s lines)
  pub posted : new ≡ old ++ accepted_in s lines
  pub replied : replies_new ≡ replies_old ++ publisher_replies s first lines

-- the same for one line, and for lines, in whatever state the board stands as a service
abbrev pub IsLineTaken : Option TimetableState → ℕ → WindowLine → List Message → List Message
    → Names → Names → Option Reply → Type 0
IsLineTaken o number line old new names names_new reply = (s : ServiceState)
    → StandsAt o old names s → IsTaken o s number line old new names_new reply

abbrev pub AreLinesPosted : Option TimetableState → ℕ → List WindowLine → List Message
    → List Message → Names → Names → List (Option Reply) → List (Option Reply) → Type 0
AreLinesPosted o first lines old new names names_new replies_old replies_new = (s : ServiceState)
    → StandsAt o old names s
    → ArePosted o s first lines old new names_new replies_old replies_new
