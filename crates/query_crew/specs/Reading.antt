-- What reading a window takes from the input, and how it ends.
use Rattle.std.specs.Prelude.{◌≡◌, ◌<◌, List, [], ◌∷◌, Option, Some, None}
use Rattle.information_service.specs.declared.fault.LinesFault.{LinesFault}
use Rattle.information_service.specs.declared.fault.LinesFault.TheVariants as faults
use Rattle.information_service.specs.Lines.{said_by}
use Rattle.mt_io.specs.Lines.{Line}
use Rattle.mt_io.specs.Reader.{Reader, IsDone, CanReadOn, IsSpent, work}
use Rattle.schedule_build.specs.Directory.{Names}
use Rattle.query_crew.specs.declared.reading.WindowEnd.{WindowEnd}
use Rattle.query_crew.specs.declared.reading.WindowEnd.TheVariants as ends
use Rattle.query_crew.specs.declared.window_line.WindowLine.{WindowLine}
use Rattle.query_crew.specs.WindowLines.{window_line, window_lines, IsWindowLine}
use Rattle.query_crew.specs.Windows.{IsClosedWindow, IsOpenWindow}

-- one line was taken, and this is what it says in a window
pub record IsOneLine (names : Names) (w : WindowLine) (lines : List Line)
    (old new : Reader) : Type 0 where
  pub line : Line
  pub taken : lines ≡ line ∷ []
  pub said : w ≡ window_line names (said_by line)
  pub kept : IsWindowLine w
  pub work : work new < work old

-- a line was taken, or none, since the input is at its end
abbrev pub IsNextLine : Names → Option WindowLine → List Line → Reader → Reader → Type 0
IsNextLine names (Some w) lines old new = IsOneLine names w lines old new
IsNextLine names None lines old new = (lines ≡ []) × IsDone new

-- why no line came: where the input is to blame, none was taken, and so the reader stands. No write
-- fails
abbrev pub StopsAt : LinesFault → List Line → Reader → Type 0
StopsAt faults.ReadFault lines r = (lines ≡ []) × CanReadOn r
StopsAt faults.WriteFault lines r = ⊥
StopsAt faults.OutOfMemory lines r = Unit {0}
StopsAt faults.TooLong lines r = (lines ≡ []) × IsSpent r

-- how a window of these lines ends, and how it leaves the reader. Where it is closed, there is less
-- left to read
abbrev pub EndsWindow : WindowEnd → List Line → Reader → Reader → Type 0
EndsWindow ends.More lines old new = IsClosedWindow lines × (work new < work old)
EndsWindow ends.End lines old new = IsOpenWindow lines × IsDone new

-- these lines were read, a window has them, and so it ends
pub record IsReadWindow (names : Names) (end : WindowEnd) (lines : List Line)
    (window : List WindowLine) (old new : Reader) : Type 0 where
  pub shown : window ≡ window_lines names lines
  pub ended : EndsWindow end lines old new

-- these lines were read, a window has them, and it is open
pub record IsCutWindow (names : Names) (lines : List Line)
    (window : List WindowLine) : Type 0 where
  pub shown : window ≡ window_lines names lines
  pub rest : IsOpenWindow lines

-- why reading a window stopped: where the input is to blame, the window is open, and so the reader
-- stands. No write fails
abbrev pub StopsWindow : Names → LinesFault → List Line → List WindowLine → Reader → Type 0
StopsWindow names faults.ReadFault lines window r = IsCutWindow names lines window × CanReadOn r
StopsWindow names faults.WriteFault lines window r = ⊥
StopsWindow names faults.OutOfMemory lines window r = Unit {0}
StopsWindow names faults.TooLong lines window r = IsCutWindow names lines window × IsSpent r
