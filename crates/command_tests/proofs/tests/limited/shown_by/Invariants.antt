use Rattle.std.proofs.Common.{Some}
use Rattle.command_tests.proofs.tests.limited.shown_by.Given as goal

-- the board that is opened
abbrev pub ghosts-limited_text-H-History : goal.ghosts-limited_text-H-History
ghosts-limited_text-H-History g a = record { book = a.history }

abbrev pub ghosts-limited_text-H-Opening : goal.ghosts-limited_text-H-Opening
ghosts-limited_text-H-Opening g a = record { opening = Some a.plan.timetable }
