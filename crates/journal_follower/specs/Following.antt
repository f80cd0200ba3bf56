-- A follower of a journal.
use Rattle.std.specs.Prelude.{◌≡◌, ◌≤◌, ◌+◌, ◌-◌, ℕ, List, [], length, take, None}
use Rattle.std.specs.declared.option.Option.{Option}
use Rattle.delay_model.specs.declared.messages.Message.{Message}
use Rattle.information_service.specs.ServiceState.{ServiceState}
use Rattle.journal_replay.specs.Journals.{after_wires, messages_in}
use Rattle.journal_replay.specs.ReaderStates.{ReaderState}
use Rattle.message_reader.specs.declared.wire.Wire.{Wire}
use Rattle.mt_io.specs.Lines.{pieces}
use Rattle.query_crew.specs.Posting.{HasService, StandsAt}
use Rattle.timetable.specs.TimetableState.{TimetableState}
use Rattle.journal_follower.specs.Boards.{BoardState}

-- the reader of the journal, and the board
pub record FollowerState (P : Type 0) : Type 0 where
  pub reader : ReaderState
  pub board : BoardState P

-- the board stands as a service, and has no more messages than lines were taken
pub record Stands (o : Option TimetableState) (f : FollowerState (List Message)) : Type 0 where
  pub service : HasService o f.board.posted f.board.names
  pub few : length f.board.posted ≤ f.reader.lines

-- it can read on, unless its journal is refused
abbrev pub IsReady : Option TimetableState → FollowerState (List Message) → Type 0
IsReady o f = f.reader.refusal ≡ None → Stands o f

-- the timetable has the network and the state that a service has behind these messages
pub record IsTimetableOf (t : TimetableState) (s : ServiceState) (ws : List Wire) : Type 0 where
  pub network : t.network ≡ (after_wires s ws).network
  pub state : t.state ≡ (after_wires s ws).state

-- a reader that has read nothing of a journal with this header
abbrev pub new_reader : List ℕ → ReaderState
new_reader header = record { header = header; lines = 0; held = []; refusal = None }

-- so a follower stands that has read these bytes, which begin the journal of these messages: it
-- refuses nothing, and the messages of the whole lines were posted, which are as many as it has
-- taken lines behind the header
pub record HasFollowed (o : Option TimetableState) (s : ServiceState) (ws : List Wire)
    (bytes : List ℕ) (now : FollowerState (List Message)) : Type 0 where
  pub not_refused : now.reader.refusal ≡ None
  pub lines : length (pieces bytes) ≡ now.reader.lines + 1
  pub posted : now.board.posted ≡ messages_in s (take (now.reader.lines - 1) ws)
  pub stands : StandsAt o now.board.posted now.board.names
      (after_wires s (take (now.reader.lines - 1) ws))
