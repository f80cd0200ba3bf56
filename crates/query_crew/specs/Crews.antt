-- What a crew keeps between windows, and what it does with one.
use Rattle.std.specs.Prelude.{◌≡◌, ◌++◌, ℕ, List, All, length}
use Rattle.std.specs.declared.option.Option.{Option}
use Rattle.delay_model.specs.declared.messages.Message.{Message}
use Rattle.delay_model.specs.declared.network.Network.{Network}
use Rattle.delay_model.specs.declared.state.State.{State}
use Rattle.delay_report.specs.declared.replies.Reply.{Reply}
use Rattle.information_service.specs.ServiceState.{service_after}
use Rattle.mt_io.specs.Lines.{Line}
use Rattle.schedule_build.specs.Directory.{Names}
use Rattle.snapshot_board.specs.Knowledge.{Knowledge}
use Rattle.timetable.specs.TimetableState.{TimetableState}
use Rattle.query_crew.specs.declared.crew.Crew.{Crew}
use Rattle.query_crew.specs.Posted.{HasSearchRoom}
use Rattle.query_crew.specs.Posting.{HasService, StandsAt}
use Rattle.query_crew.specs.Served.{AreWindowReplies}
use Rattle.query_crew.specs.WindowLines.{window_lines}
use Rattle.query_crew.specs.declared.window_line.WindowLine.{WindowLine}

-- the crew's board stands as a service with the names that are known, and each worker has room for
-- a search between all stops
pub record IsReady (o : Option TimetableState)
    (crew : Crew (List Message) (Knowledge Message)) : Type 0 where
  pub board : HasService o crew.publisher crew.directory
  pub room : All (λ w. HasSearchRoom o w.scratch.room) crew.workers

-- these are replies to the lines of a window, of which `first` lines of the input stand before it:
-- whatever timetable, names and lines before the window the board stands at
abbrev pub AreRepliesTo : Option TimetableState → List Message → Names → ℕ → List WindowLine
    → List Reply → Type 0
AreRepliesTo o posted known first lines replies = (nw : Network) (names : Names) (st : State)
    (before window : List Line) → StandsAt o posted known (service_after nw names st before)
    → first ≡ length before → lines ≡ window_lines known window
    → AreWindowReplies nw names st before window replies

-- the board stands afterwards as the lines before the window and those of the window leave it
abbrev pub StandsBehind : Option TimetableState → List Message → List Message → Names → Names → ℕ
    → List WindowLine → Type 0
StandsBehind o old new known known_now first lines = (nw : Network) (names : Names) (st : State)
    (before window : List Line) → StandsAt o old known (service_after nw names st before)
    → first ≡ length before → lines ≡ window_lines known window
    → StandsAt o new known_now (service_after nw names st (before ++ window))
