-- The replies to the whole windows of lines that begin an input.
use Rattle.std.specs.Prelude.{ℕ, ◌≡◌, ◌++◌, List}
use Rattle.std.specs.declared.option.Option.{Option}
use Rattle.delay_model.specs.declared.network.Network.{Network}
use Rattle.delay_model.specs.declared.state.State.{State}
use Rattle.delay_model.specs.Windows.{lines_of}
use Rattle.information_service.specs.Fronts.{AppendsAll, AppendsFirst, AppendsTakenFront}
use Rattle.mt_io.specs.Lines.{Line}
use Rattle.schedule_build.specs.Directory.{Names}
use Rattle.query_crew.specs.Served.{AreServed, IsServed}
use Rattle.query_crew.specs.Windows.{AreReadWindows}

-- these bytes are what is written for the whole windows of these lines, which begin an input. The
-- lines behind the last whole window, if there are any, have no reply
pub record AreWholeWindowsServed (nw : Network) (names : Names) (st : State) (lines : List Line)
    (bytes : List ℕ) : Type 0 where
  pub windows : List (List Line)
  pub last : List Line
  pub are_read : AreReadWindows windows last
  pub joined : lines ≡ lines_of windows ++ last
  pub served : AreServed nw names st windows bytes

-- what is written for all lines of an input was written
abbrev pub AppendsServed : Network → Names → State → List Line → Option (List ℕ)
    → Option (List ℕ) → Type 0
AppendsServed nw names st lines = AppendsAll (IsServed nw names st lines)

-- the replies to the whole windows of these lines were written
abbrev pub AppendsWholeWindows : Network → Names → State → List Line → Option (List ℕ)
    → Option (List ℕ) → Type 0
AppendsWholeWindows nw names st lines = AppendsAll (AreWholeWindowsServed nw names st lines)

-- a front was written of the replies to the whole windows of the first of these lines
abbrev pub AppendsFirstWindows : Type 0 → Network → Names → State → List Line → Option (List ℕ)
    → Option (List ℕ) → Type 0
AppendsFirstWindows Failed nw names st = AppendsFirst Failed (AreWholeWindowsServed nw names st)

-- a front was written of the output for the bytes that were taken: of the replies to the whole
-- windows of the first lines, or, at the end of the input, of all replies
abbrev pub AppendsServedFront : Type 0 → Network → Names → State → ℕ → Option (List ℕ)
    → Option (List ℕ) → Option (List ℕ) → Option (List ℕ) → Type 0
AppendsServedFront Failed nw names st =
    AppendsTakenFront Failed (IsServed nw names st) (AreWholeWindowsServed nw names st)
