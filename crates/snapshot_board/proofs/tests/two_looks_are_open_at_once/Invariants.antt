use Rattle.std.proofs.Common.{Some}
use Rattle.snapshot_board.proofs.tests.two_looks_are_open_at_once.Given as goal

-- the board that is opened
abbrev pub ghosts-look_at_once-H-History : goal.ghosts-look_at_once-H-History
ghosts-look_at_once-H-History g a = record { book = a.history }

abbrev pub ghosts-look_at_once-H-Opening : goal.ghosts-look_at_once-H-Opening
ghosts-look_at_once-H-Opening g a = record { opening = Some a.first.total }
