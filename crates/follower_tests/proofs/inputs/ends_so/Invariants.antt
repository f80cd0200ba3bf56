use Rattle.std.proofs.Common.{Some}
use Rattle.follower_tests.proofs.inputs.ends_so.Given as goal

abbrev pub ghosts-follow-H-History : goal.ghosts-follow-H-History
ghosts-follow-H-History g a = record { book = a.history }

abbrev pub ghosts-follow-H-Opening : goal.ghosts-follow-H-Opening
ghosts-follow-H-Opening g a = record { opening = Some a.leader.timetable }
