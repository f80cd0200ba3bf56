use Rattle.std.proofs.Common.{Some}
use Rattle.snapshot_board.proofs.tests.a_post_is_taken_inside_a_look.Given as goal

-- the board that is opened
abbrev pub ghosts-post_inside_a_look-H-History : goal.ghosts-post_inside_a_look-H-History
ghosts-post_inside_a_look-H-History g a = record { book = a.history }

abbrev pub ghosts-post_inside_a_look-H-Opening : goal.ghosts-post_inside_a_look-H-Opening
ghosts-post_inside_a_look-H-Opening g a = record { opening = Some a.first.total }
