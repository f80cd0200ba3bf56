use Rattle.std.proofs.Common.{Some}
use Rattle.snapshot_board.proofs.tests.viewers_look_beside_the_publisher.Given as goal

-- the board that is opened
abbrev pub ghosts-look_beside_posts-H-History : goal.ghosts-look_beside_posts-H-History
ghosts-look_beside_posts-H-History g a = record { book = a.history }

abbrev pub ghosts-look_beside_posts-H-Opening : goal.ghosts-look_beside_posts-H-Opening
ghosts-look_beside_posts-H-Opening g a = record { opening = Some a.first.total }
