-- What running a window, and then the next, leaves.
use Rattle.std.specs.Prelude.{ℕ, ◌≡◌, ◌⊎◌, ◌++◌, List, false}
use Rattle.std.specs.declared.option.Option.{Option}
use Rattle.delay_model.specs.declared.messages.Message.{Message}
use Rattle.delay_model.specs.declared.network.Network.{Network}
use Rattle.delay_model.specs.declared.state.State.{State}
use Rattle.delay_report.specs.declared.replies.Reply.{Reply}
use Rattle.information_service.specs.Fronts.{IsTaken}
use Rattle.information_service.specs.ServiceState.{service_after}
use Rattle.mt_io.specs.Lines.{Line, lines_of}
use Rattle.mt_io.specs.Reader.{Reader, IsDone}
use Rattle.schedule_build.specs.Directory.{Names}
use Rattle.timetable.specs.TimetableState.{TimetableState}
use Rattle.query_crew.specs.Posting.{StandsAt}
use Rattle.window_service.specs.Received.{AreAllReceived, AreFirstReceived, AreWholeReceived, IsOneReceived}

-- a window that stands behind the lines `before` was answered: its replies are received, and the
-- board stands as the lines up to its end leave it
pub record IsAnswered {K : Type 0} (Receives : K → K → Names → List Reply → Type 0)
    (o : Option TimetableState) (nw : Network) (names : Names) (st : State)
    (before window : List Line) (posted : List Message) (names_now : Names)
    (old new : K) : Type 0 where
  pub stands : StandsAt o posted names_now (service_after nw names st (before ++ window))
  pub one : IsOneReceived Receives nw names st before window old new

-- a part of the replies of a window that stands behind the lines `before` is received, or the
-- output is as it was, and no write of it has `Failed`
abbrev pub IsBegun : {K : Type 0} → Type 0 → (K → K → Names → List Reply → Type 0) → Network
    → Names → State → List Line → List Line → K → K → Type 0
IsBegun Failed Begins nw names st before window old new =
    ((new ≡ old) × ¬ Failed) ⊎ IsOneReceived Begins nw names st before window old new

-- all lines of the input were read, and the replies to their windows were received
pub record HasEnded {K : Type 0} (Receives : K → K → Names → List Reply → Type 0) (nw : Network)
    (names : Names) (st : State) (r : Reader) (left left_now : Option (List ℕ))
    (old new : K) : Type 0 where
  pub bytes : List ℕ
  pub lines : List Line
  pub done : IsDone r
  pub read : IsTaken r left left_now bytes lines
  pub output : AreAllReceived Receives Receives nw names st lines old new

-- these bytes were read before the end of the input, and the replies to the whole windows of their
-- lines were received
pub record HasStopped {K : Type 0} (Receives : K → K → Names → List Reply → Type 0) (nw : Network)
    (names : Names) (st : State) (r : Reader) (left left_now : Option (List ℕ))
    (old new : K) : Type 0 where
  pub bytes : List ℕ
  pub lines : List Line
  pub are : lines_of false bytes ≡ lines
  pub read : IsTaken r left left_now bytes lines
  pub output : AreWholeReceived Receives nw names st lines old new

-- lines were read from the input, and the replies to the first of their windows were received
pub record HasBegun {K : Type 0} (Failed : Type 0)
    (Receives Begins : K → K → Names → List Reply → Type 0) (nw : Network) (names : Names)
    (st : State) (r : Reader) (left left_now : Option (List ℕ)) (old new : K) : Type 0 where
  pub bytes : List ℕ
  pub lines : List Line
  pub read : IsTaken r left left_now bytes lines
  pub output : AreFirstReceived Failed Receives Begins nw names st lines old new
      ⊎ (IsDone r × AreAllReceived Receives Begins nw names st lines old new)
