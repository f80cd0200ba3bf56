use Rattle.std.proofs.Common.{Some}
use Rattle.command_tests.proofs.tests.refused_posts.post_on_feed.Given as goal

-- the board that is opened
abbrev pub ghosts-post_on_copies-H-History : goal.ghosts-post_on_copies-H-History
ghosts-post_on_copies-H-History g a = record { book = a.history }

abbrev pub ghosts-post_on_copies-H-Opening : goal.ghosts-post_on_copies-H-Opening
ghosts-post_on_copies-H-Opening g a = record { opening = Some a.timetable }
