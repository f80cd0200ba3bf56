-- Answers to queries over the messages that were posted to a board of timetables. In all of these
-- `o` is the timetable at the board's opening, where it is known.
use Rattle.std.specs.Prelude.{◌≡◌, ◌≤◌, ℕ, List, length, take, Some}
use Rattle.std.specs.declared.option.Option.{Option}
use Rattle.conn_scan.specs.ScratchState.{ScratchRoom}
use Rattle.delay_model.specs.declared.messages.Message.{Message}
use Rattle.delay_report.specs.declared.replies.Reply.{Reply}
use Rattle.information_service.specs.Output.{IsReplyToQuery}
use Rattle.message_reader.specs.declared.resolve_queries.AskedQuery.{AskedQuery}
use Rattle.snapshot_board.specs.States.{meaning_after}
use Rattle.timetable.specs.TimetableState.{TimetableState, taken}

-- the timetable after these messages
abbrev pub timetable_after : Option TimetableState → List Message → Option TimetableState
timetable_after o list = meaning_after taken o list

-- a search in the timetable fits into a room: its stops do, and the numbers of its departures
pub record IsRoomFor (t : TimetableState) (room : ScratchRoom) : Type 0 where
  pub stops : length t.network.stops ≤ room.stops
  pub numbers : t.numbers ≤ room.numbers

-- a search in the timetable at the opening, and so in every one of the board, fits into a room
abbrev pub HasSearchRoom : Option TimetableState → ScratchRoom → Type 0
HasSearchRoom o room = (t : TimetableState) → o ≡ Some t → IsRoomFor t room

-- this is a reply to a query by number: it shows `count`, which is not below the least, and answers
-- in the timetable after the first `count` of the messages in the list
pub record IsAnswerAt (o : Option TimetableState) (list : List Message) (least line : ℕ)
    (asked : AskedQuery) (reply : Reply) : Type 0 where
  pub count : ℕ
  pub lower : least ≤ count
  pub upper : count ≤ length list
  pub shown : TimetableState
  pub after : timetable_after o (take count list) ≡ Some shown
  pub answers : IsReplyToQuery shown.network shown.state count line asked.day asked.query reply
