use Rattle.std.proofs.Common.{Some}
use Rattle.snapshot_board.proofs.tests.the_older_copy_follows.Given as goal

-- the board that is opened
abbrev pub ghosts-followed_posts-H-History : goal.ghosts-followed_posts-H-History
ghosts-followed_posts-H-History g a = record { book = a.history }

abbrev pub ghosts-followed_posts-H-Opening : goal.ghosts-followed_posts-H-Opening
ghosts-followed_posts-H-Opening g a = record { opening = Some a.first.total }
