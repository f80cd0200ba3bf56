use Rattle.std.proofs.Common.{Some}
use Rattle.commands.proofs.following.follow_words.Given as goal

-- the board that `follow` opens
abbrev pub ghosts-follow_journal-H-History : goal.ghosts-follow_journal-H-History
ghosts-follow_journal-H-History g a = record { book = a.history }

abbrev pub ghosts-follow_journal-H-Opening : goal.ghosts-follow_journal-H-Opening
ghosts-follow_journal-H-Opening g a = record { opening = Some a.leader.timetable }
