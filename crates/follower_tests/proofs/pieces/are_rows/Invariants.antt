use Rattle.std.proofs.Common.{Some}
use Rattle.follower_tests.proofs.pieces.are_rows.Given as goal

abbrev pub ghosts-rows_behind-H-History : goal.ghosts-rows_behind-H-History
ghosts-rows_behind-H-History g a = record { book = a.history }

abbrev pub ghosts-rows_behind-H-Opening : goal.ghosts-rows_behind-H-Opening
ghosts-rows_behind-H-Opening g a = record { opening = Some a.leader.timetable }
