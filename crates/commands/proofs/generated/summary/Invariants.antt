use Rattle.std.proofs.Common.{Some}
use Rattle.commands.proofs.generated.summary.Given as goal

-- the board that `gen` opens
abbrev pub ghosts-sum_windows-H-History : goal.ghosts-sum_windows-H-History
ghosts-sum_windows-H-History g a = record { book = a.history }

abbrev pub ghosts-sum_windows-H-Opening : goal.ghosts-sum_windows-H-Opening
ghosts-sum_windows-H-Opening g a = record { opening = Some a.plan.timetable }
