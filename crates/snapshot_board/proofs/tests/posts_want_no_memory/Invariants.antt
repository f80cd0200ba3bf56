use Rattle.std.proofs.Common.{Some}
use Rattle.snapshot_board.proofs.tests.posts_want_no_memory.Given as goal

-- the board that is opened
abbrev pub ghosts-post_without_memory-H-History : goal.ghosts-post_without_memory-H-History
ghosts-post_without_memory-H-History g a = record { book = a.history }

abbrev pub ghosts-post_without_memory-H-Opening : goal.ghosts-post_without_memory-H-Opening
ghosts-post_without_memory-H-Opening g a = record { opening = Some a.first.total }
