use Rattle.std.proofs.Common.{Some}
use Rattle.snapshot_board.proofs.tests.what_was_posted_is_seen.Given as goal

-- the board that is opened
abbrev pub ghosts-post_tell_learn_look_meet-H-History : goal.ghosts-post_tell_learn_look_meet-H-History
ghosts-post_tell_learn_look_meet-H-History g a = record { book = a.history }

abbrev pub ghosts-post_tell_learn_look_meet-H-Opening : goal.ghosts-post_tell_learn_look_meet-H-Opening
ghosts-post_tell_learn_look_meet-H-Opening g a = record { opening = Some a.first.total }
