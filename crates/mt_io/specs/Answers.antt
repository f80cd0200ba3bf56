-- What a call of a line reader answers.
use Rattle.std.specs.Prelude.{ℕ, List, [], ◌∷◌, ◌⊎◌, ◌≡◌, ◌<◌}
use Rattle.mt_io.specs.Lines.{Line, short, long}
use Rattle.mt_io.specs.Reader.{Reader, CanReadOn, IsDone, IsSpent, work}
use Rattle.mt_io.specs.declared.lines.Next.{Next}
use Rattle.mt_io.specs.declared.lines.Next.TheVariants as next
use Rattle.mt_io.specs.declared.lines.Found.{Found}
use Rattle.mt_io.specs.declared.lines.Found.TheVariants as found

-- the lines that a call answers: one, or none
abbrev pub next_lines : Next → List Line
next_lines (next.Line line) = short line.now ∷ []
next_lines next.LongLine = long ∷ []
next_lines next.End = []
next_lines next.ReadFault = []
next_lines next.Budget = []

-- how a call that answers so leaves the reader
abbrev pub LeavesNext : Next → Reader → Reader → Type 0
LeavesNext (next.Line line) old new = work new < work old
LeavesNext next.LongLine old new = work new < work old
LeavesNext next.End old new = IsDone new
LeavesNext next.ReadFault old new = CanReadOn new
LeavesNext next.Budget old new = IsSpent new

-- the lines that were found: one, which is there to be read, or none
abbrev pub answers : Found → List ℕ → List Line
answers found.Line line = short line ∷ []
answers found.LongLine line = long ∷ []
answers found.End line = []
answers found.ReadFault line = []
answers found.Budget line = []

-- how a call that finds so leaves the reader
abbrev pub Leaves : Found → Reader → Reader → Type 0
Leaves found.Line old new = work new < work old
Leaves found.LongLine old new = work new < work old
Leaves found.End old new = IsDone new
Leaves found.ReadFault old new = CanReadOn new
Leaves found.Budget old new = IsSpent new

-- a line was found
abbrev pub IsLine : Found → Type 0
IsLine f = (f ≡ found.Line) ⊎ (f ≡ found.LongLine)
