use Rattle.std.proofs.Common.{Some}
use Rattle.commands.proofs.run.serve_words.Given as goal

-- the board that `serve` opens
abbrev pub ghosts-write_windows-H-History : goal.ghosts-write_windows-H-History
ghosts-write_windows-H-History g a = record { book = a.history }

abbrev pub ghosts-write_windows-H-Opening : goal.ghosts-write_windows-H-Opening
ghosts-write_windows-H-Opening g a = record { opening = Some a.plan.timetable }
